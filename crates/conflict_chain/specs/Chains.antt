-- Chains of reasons.
use Rattle.std.specs.Prelude.{◌≡◌, ℕ, ◌<◌, List, [], ◌∷◌, ◌++◌, length, take, slice_index_or, Contains}
use Rattle.year_labels.specs.declared.label.Fact.{Fact}
use Rattle.year_labels.specs.declared.label.Seed.{Seed}
use Rattle.year_labels.specs.declared.rule.RuleInst.{RuleInst}
use Rattle.year_labels.specs.Forms.{Follows}
use Rattle.conflict_chain.specs.declared.chain.ChainStep.{ChainStep}
use Rattle.conflict_chain.specs.declared.chain.Why.{Why}
use Rattle.conflict_chain.specs.declared.chain.Why.TheVariants as whys
use Rattle.conflict_chain.specs.Named.{named, IsAt}

-- a seed of that row has the fact
abbrev pub IsSeedOf : List Seed → ℕ → Fact → Type 0
IsSeedOf seeds row fact = (seed : Seed) × Contains seeds seed × (seed ≡ record { fact = fact; row = row })

abbrev pub AreEarlier : List ℕ → ℕ → Type 0
AreEarlier from count = (k : ℕ) → Contains from k → k < count

-- the fact follows by the rule of that index from the earlier steps that are named
abbrev pub IsByRule : List RuleInst → ℕ → List ChainStep → List ℕ → Fact → Type 0
IsByRule rules index earlier from fact = (rule : RuleInst) × IsAt rules index rule × AreEarlier from (length earlier) × Follows rule.form (named earlier from) fact

abbrev pub HasReason : List Seed → List RuleInst → List ChainStep → Why → List ℕ → Fact → Type 0
HasReason seeds rules earlier (whys.Seed row) from fact = IsSeedOf seeds row fact
HasReason seeds rules earlier (whys.Rule index) from fact = IsByRule rules index earlier from fact

-- each step has its reason
abbrev pub AreReasoned : List Seed → List RuleInst → List ChainStep → Type 0
AreReasoned seeds rules steps = (k : ℕ) (d : ChainStep) → k < length steps → HasReason seeds rules (take k steps) (slice_index_or steps k d).why (slice_index_or steps k d).from (slice_index_or steps k d).fact

-- no step has the fact of an earlier one
abbrev pub AreUnlike : List ChainStep → Type 0
AreUnlike steps = (j k : ℕ) (d : ChainStep) → j < k → k < length steps → (slice_index_or steps j d).fact ≡ (slice_index_or steps k d).fact → ⊥

-- the last step is the fact
abbrev pub EndsWith : List ChainStep → Fact → Type 0
EndsWith steps fact = (front : List ChainStep) × (step : ChainStep) × (steps ≡ front ++ step ∷ []) × (step.fact ≡ fact)

-- each step is the fact of a seed or follows by a rule from earlier steps, no fact stands twice, and the last is this one
abbrev pub IsChain : List Seed → List RuleInst → List ChainStep → Fact → Type 0
IsChain seeds rules steps fact = AreReasoned seeds rules steps × AreUnlike steps × EndsWith steps fact
