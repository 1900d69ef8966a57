-- Where a list of facts in order has two facts of one byte.
use Rattle.std.specs.Prelude.{◌≡◌, ℕ, ◌+◌, ◌<◌, List, Contains, slice_get, Some}
use Rattle.std.specs.List.Sorted.{IsStrictlySortedBy}
use Rattle.y2k_base.specs.declared.place.BytePlace.{BytePlace}
use Rattle.year_labels.specs.declared.label.Fact.{Fact}
use Rattle.year_labels.specs.declared.label.Label.{Label}
use Rattle.year_labels.specs.declared.label.Seed.{Seed}
use Rattle.year_labels.specs.declared.rule.RuleInst.{RuleInst}
use Rattle.year_labels.specs.Facts.{fact_of}
use Rattle.year_labels.specs.Order.{IsAscending, place_cmp}
use Rattle.conflict_chain.specs.declared.chain.Conflict.{Conflict}
use Rattle.conflict_chain.specs.Conflicts.{IsConflict}

-- the facts of that number and of the next are of one byte
abbrev pub AreOfOneByte : List Fact → ℕ → Type 0
AreOfOneByte facts k = (f : Fact) × (g : Fact) × (slice_get facts k ≡ Some f) × (slice_get facts (k + 1) ≡ Some g) × (f.place ≡ g.place)

-- the fact of that number is of the byte of the one before
abbrev pub IsLaterOne : List Fact → ℕ → Type 0
IsLaterOne facts k = (j : ℕ) × (k ≡ j + 1) × AreOfOneByte facts j

-- the facts of that number and of the next are the first two of the byte
abbrev pub AreFirstTwo : List Fact → ℕ → BytePlace → Label → Label → Type 0
AreFirstTwo facts k place first second = (slice_get facts k ≡ Some (fact_of place first)) × (slice_get facts (k + 1) ≡ Some (fact_of place second)) × (IsLaterOne facts k → ⊥)

-- the conflicts of the bytes of the first k facts, in order
pub record AreConflictsUpTo (seeds : List Seed) (rules : List RuleInst) (facts : List Fact) (k : ℕ) (list : List Conflict) : Type 0 where
  pub ascending : 0 < k → IsAscending facts
  pub sound : (c : Conflict) → Contains list c → IsConflict seeds rules facts c
  pub found : (c : Conflict) → Contains list c → (j : ℕ) × (j < k) × (slice_get facts j ≡ Some (fact_of c.place c.first))
  pub all : (j : ℕ) (f : Fact) → j < k → AreOfOneByte facts j → slice_get facts j ≡ Some f → (c : Conflict) × Contains list c × (c.place ≡ f.place)
  pub ordered : IsStrictlySortedBy (λ (c d : Conflict). place_cmp c.place d.place) list
