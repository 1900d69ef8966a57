-- The conflicts of a labelling.
use Rattle.std.specs.Prelude.{◌≡◌, ◌⊎◌, List, Contains}
use Rattle.std.specs.List.Sorted.{IsStrictlySortedBy}
use Rattle.std.specs.declared.cmp.Ordering.TheVariants.{Less}
use Rattle.year_labels.specs.declared.label.Fact.{Fact}
use Rattle.year_labels.specs.declared.label.Label.{Label}
use Rattle.year_labels.specs.declared.label.Seed.{Seed}
use Rattle.year_labels.specs.declared.rule.RuleInst.{RuleInst}
use Rattle.year_labels.specs.Facts.{fact_of}
use Rattle.year_labels.specs.Order.{place_cmp, label_cmp}
use Rattle.conflict_chain.specs.declared.chain.Conflict.{Conflict}
use Rattle.conflict_chain.specs.Chains.{IsChain}

-- the byte bears the two labels, and each other label of it is greater
pub record AreLeastLabels (facts : List Fact) (c : Conflict) : Type 0 where
  pub first : Contains facts (fact_of c.place c.first)
  pub second : Contains facts (fact_of c.place c.second)
  pub rising : label_cmp c.first c.second ≡ Less
  pub others : (label : Label) → Contains facts (fact_of c.place label) → (label ≡ c.first) ⊎ ((label ≡ c.second) ⊎ (label_cmp c.second label ≡ Less))

-- a conflict with a chain for each of its labels
pub record IsConflict (seeds : List Seed) (rules : List RuleInst) (facts : List Fact) (c : Conflict) : Type 0 where
  pub least : AreLeastLabels facts c
  pub chain1 : IsChain seeds rules c.chain1.steps (fact_of c.place c.first)
  pub chain2 : IsChain seeds rules c.chain2.steps (fact_of c.place c.second)

-- exactly one conflict for each byte with unlike labels, in order of places
pub record AreConflictsOf (seeds : List Seed) (rules : List RuleInst) (facts : List Fact) (list : List Conflict) : Type 0 where
  pub sound : (c : Conflict) → Contains list c → IsConflict seeds rules facts c
  pub all : (f g : Fact) → Contains facts f → Contains facts g → f.place ≡ g.place → (f.label ≡ g.label → ⊥) → (c : Conflict) × Contains list c × (c.place ≡ f.place)
  pub ordered : IsStrictlySortedBy (λ (c d : Conflict). place_cmp c.place d.place) list
