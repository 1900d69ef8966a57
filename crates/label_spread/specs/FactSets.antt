-- Sets of facts that are kept by blocks of bytes.
use Rattle.std.specs.Prelude.{◌↔◌, Contains, ℕ, ◌-◌, ◌%◌, Bool, false, IsTrue, List, slice_index_or, Option, Some, None}
use Rattle.std.specs.BTreeMap.{get}
use Rattle.year_labels.specs.declared.label.Fact.{Fact}
use Rattle.year_labels.specs.Order.{fact_cmp}
use Rattle.label_spread.specs.declared.fact_set.FactSet.{FactSet}

-- that the first byte of the fact's block of 64 bytes bears the label
abbrev pub block_of : Fact → Fact
block_of f = record { place = record { area = f.place.area; offset = f.place.offset - f.place.offset % 64 }; label = f.label }

-- which byte of its block it is
abbrev pub byte_of : Fact → ℕ
byte_of f = f.place.offset % 64

-- byte k bears the label, of those of which it is known
abbrev pub Bears : Option (List Bool) → ℕ → Type 0
Bears None k = ⊥
Bears (Some bytes) k = IsTrue (slice_index_or bytes k false)

-- which bytes of the block bear its label
abbrev pub held : FactSet → Fact → Option (List Bool)
held set block = get fact_cmp set.blocks block

-- the fact is in the set
abbrev pub IsIn : FactSet → Fact → Type 0
IsIn set f = Bears (held set (block_of f)) (byte_of f)

-- the set has just these facts
abbrev pub HasJust : FactSet → List Fact → Type 0
HasJust set facts = (f : Fact) → IsIn set f ↔ Contains facts f
