-- An index of rules by blocks of bytes.
use Rattle.std.specs.Prelude.{◌⊎◌, ℕ, ◌+◌, ◌/◌, ◌<◌, Bool, List, length, slice_index_or, Contains}
use Rattle.std.specs.List.{filter}
use Rattle.std.specs.declared.cmp.Ordering.{Ordering}
use Rattle.std.specs.declared.ops.Bound.TheVariants.{Included, Excluded}
use Rattle.std.specs.Ordering.{nat_cmp, ordering_then}
use Rattle.std.specs.BTreeMap.Range.{range_contains}
use Rattle.y2k_base.specs.declared.place.AreaId.{AreaId}
use Rattle.y2k_base.specs.declared.place.BytePlace.{BytePlace}
use Rattle.y2k_base.specs.declared.place.Span.{Span}
use Rattle.year_labels.specs.declared.rule.RuleForm.{RuleForm}
use Rattle.year_labels.specs.declared.rule.RuleForm.TheVariants as forms
use Rattle.year_labels.specs.declared.rule.RuleInst.{RuleInst}
use Rattle.label_spread.specs.declared.slots.Slot.{Slot}
use Rattle.label_spread.specs.Steps.{IsInSpan, Touches}

-- by area, then by block, then by rule
abbrev pub slot_cmp : Slot → Slot → Ordering
slot_cmp s t = ordering_then (nat_cmp s.area.0 t.area.0) (ordering_then (nat_cmp s.block t.block) (nat_cmp s.rule t.rule))

-- that the rule of that index looks at the block or gives a fact of it
abbrev pub slot_in : AreaId → ℕ → ℕ → Slot
slot_in area block rule = record { area = area; block = block; rule = rule }

-- that it looks at the block of the byte
abbrev pub slot_of : BytePlace → ℕ → Slot
slot_of place rule = slot_in place.area (place.offset / 64) rule

abbrev pub is_of_block : AreaId → ℕ → Slot → Bool
is_of_block area block slot = range_contains slot_cmp (Included (slot_in area block 0)) (Excluded (slot_in area (block + 1) 0)) slot

abbrev pub slots_of_block : AreaId → ℕ → List Slot → List Slot
slots_of_block area block slots = filter (is_of_block area block) slots

-- the span of the one byte
abbrev pub byte_at : BytePlace → Span
byte_at place = record { area = place.area; offset = place.offset; length = 1 }

-- the byte is one of those whose facts the rule gives or looks at
abbrev pub LooksAt : RuleForm → BytePlace → Type 0
LooksAt (forms.Give fact) place = IsInSpan (byte_at fact.place) place
LooksAt (forms.GiveDigit view power role) place = Touches (forms.GiveDigit view power role) place
LooksAt (forms.Alike a b) place = IsInSpan a place ⊎ IsInSpan b place
LooksAt (forms.Digits a b) place = Touches (forms.Digits a b) place
LooksAt (forms.Fill view from) place = Touches (forms.Fill view from) place
LooksAt (forms.Sum a b c) place = Touches (forms.Sum a b c) place
LooksAt (forms.Difference a b c) place = Touches (forms.Difference a b c) place

-- the slots of the bytes are added
pub record Indexes (look : BytePlace → Type 0) (rule : ℕ) (old new : List Slot) : Type 0 where
  pub there : (place : BytePlace) → look place → Contains new (slot_of place rule)
  pub kept : (slot : Slot) → Contains old slot → Contains new slot

-- each rule has the slots of the bytes that it looks at
abbrev pub IsIndexOf : List RuleInst → List Slot → Type 0
IsIndexOf rules slots = (k : ℕ) (d : RuleInst) (place : BytePlace) → k < length rules → LooksAt (slice_index_or rules k d).form place → Contains slots (slot_of place k)
