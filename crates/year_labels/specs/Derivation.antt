-- Derivations, and the least list of facts that is closed.
use Rattle.std.specs.Prelude.{◌≡◌, ◌⊎◌, ℕ, ◌<◌, List, length, take, slice_index_or, Contains}
use Rattle.year_labels.specs.declared.label.Fact.{Fact}
use Rattle.year_labels.specs.declared.label.Seed.{Seed}
use Rattle.year_labels.specs.declared.rule.RuleInst.{RuleInst}
use Rattle.year_labels.specs.Forms.{Follows}

-- it follows by one of the rules
abbrev pub FollowsByOne : List RuleInst → List Fact → Fact → Type 0
FollowsByOne rules known f = (rule : RuleInst) × Contains rules rule × Follows rule.form known f

-- it is the fact of a seed
abbrev pub IsSeedFact : List Seed → Fact → Type 0
IsSeedFact seeds f = (seed : Seed) × Contains seeds seed × (f ≡ seed.fact)

-- a step of a derivation is the fact of a seed, or follows by a rule from the facts before
abbrev pub IsStep : List Seed → List RuleInst → List Fact → Fact → Type 0
IsStep seeds rules earlier f = IsSeedFact seeds f ⊎ FollowsByOne rules earlier f

abbrev pub IsDerivation : List Seed → List RuleInst → List Fact → Type 0
IsDerivation seeds rules steps = (k : ℕ) (d : Fact) → k < length steps → IsStep seeds rules (take k steps) (slice_index_or steps k d)

-- a finite derivation has the fact
abbrev pub IsDerivable : List Seed → List RuleInst → Fact → Type 0
IsDerivable seeds rules f = (steps : List Fact) × IsDerivation seeds rules steps × Contains steps f

-- the facts are those that have a derivation
pub record AreDerivable (seeds : List Seed) (rules : List RuleInst) (facts : List Fact) : Type 0 where
  pub sound : (f : Fact) → Contains facts f → IsDerivable seeds rules f
  pub complete : (f : Fact) → IsDerivable seeds rules f → Contains facts f

-- the facts of the seeds are there, and all that follows from what is there
pub record IsClosed (seeds : List Seed) (rules : List RuleInst) (facts : List Fact) : Type 0 where
  pub seeded : (f : Fact) → IsSeedFact seeds f → Contains facts f
  pub closed : (f : Fact) → FollowsByOne rules facts f → Contains facts f

-- the facts are closed, and are in each list that is
pub record IsLeast (seeds : List Seed) (rules : List RuleInst) (facts : List Fact) : Type 0 where
  pub closed : IsClosed seeds rules facts
  pub least : (others : List Fact) → IsClosed seeds rules others → (f : Fact) → Contains facts f → Contains others f
