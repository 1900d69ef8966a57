-- The order of facts.
use Rattle.std.specs.Prelude.{List}
use Rattle.std.specs.List.Sorted.{IsStrictlySortedBy}
use Rattle.std.specs.declared.cmp.Ordering.{Ordering}
use Rattle.std.specs.declared.cmp.Ordering.TheVariants.{Less, Equal, Greater}
use Rattle.std.specs.Ordering.{nat_cmp, ordering_then}
use Rattle.y2k_base.specs.declared.place.BytePlace.{BytePlace}
use Rattle.year_labels.specs.declared.label.Fact.{Fact}
use Rattle.year_labels.specs.declared.label.Label.{Label}
use Rattle.year_labels.specs.declared.label.Label.TheVariants.{Tens, Units, Plain, Packed}

-- by area, then by offset
abbrev pub place_cmp : BytePlace → BytePlace → Ordering
place_cmp a b = ordering_then (nat_cmp a.area.0 b.area.0) (nat_cmp a.offset b.offset)

-- Tens, Units, Plain, and the packed ones by digits, unit and byte
abbrev pub label_cmp : Label → Label → Ordering
label_cmp Tens Tens = Equal
label_cmp Tens Units = Less
label_cmp Tens Plain = Less
label_cmp Tens (Packed d u b) = Less
label_cmp Units Tens = Greater
label_cmp Units Units = Equal
label_cmp Units Plain = Less
label_cmp Units (Packed d u b) = Less
label_cmp Plain Tens = Greater
label_cmp Plain Units = Greater
label_cmp Plain Plain = Equal
label_cmp Plain (Packed d u b) = Less
label_cmp (Packed d u b) Tens = Greater
label_cmp (Packed d u b) Units = Greater
label_cmp (Packed d u b) Plain = Greater
label_cmp (Packed d u b) (Packed e v c) = ordering_then (nat_cmp d e) (ordering_then (nat_cmp u v) (nat_cmp b c))

-- by place, then by label
abbrev pub fact_cmp : Fact → Fact → Ordering
fact_cmp f g = ordering_then (place_cmp f.place g.place) (label_cmp f.label g.label)

-- each fact comes before those after it
abbrev pub IsAscending : List Fact → Type 0
IsAscending = IsStrictlySortedBy fact_cmp
