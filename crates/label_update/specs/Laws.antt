-- The order of named facts is total, and only equal facts tie.
use Rattle.std.specs.Prelude.{◌≡◌, ℕ, List}
use Rattle.std.specs.Cmp.{IsTotalOrder, nat_cmp_total, on_total, then_total}
use Rattle.std.specs.Cmp.Lexicographic.{on_texts, slice_cmp}
use Rattle.std.specs.declared.cmp.Ordering.{Ordering}
use Rattle.std.specs.declared.cmp.Ordering.TheVariants.{Less, Equal, Greater}
use Rattle.std.specs.Ordering.{nat_cmp, ordering_then}
use Rattle.std.proofs.Common.{refl, ap}
use Rattle.std.proofs.lemmas.Map.Lookups.{exact_bytes, exact_unsigned}
use Rattle.y2k_base.specs.declared.place.BytePlace.{BytePlace}
use Rattle.year_labels.specs.declared.label.Fact.{Fact}
use Rattle.year_labels.specs.declared.label.Label.{Label}
use Rattle.year_labels.specs.Facts.{fact_of}
use Rattle.year_labels.specs.Order.{fact_cmp, label_cmp}
use Rattle.year_labels.proofs.Total.{fact_exact, fact_total}
use Rattle.label_update.specs.Named.{named_cmp}
use Rattle.label_update.specs.declared.named.NamedFact.{NamedFact}

abbrev first_place : BytePlace
first_place = record { area = record { 0 = 0 }; offset = 0 }

label_total : IsTotalOrder label_cmp
label_total = on_total (λ (label : Label). fact_of first_place label) fact_total

label_exact : (a b : Label) → label_cmp a b ≡ Equal → a ≡ b
label_exact a b e = ap (λ (f : Fact). f.label) (fact_exact (fact_of first_place a) (fact_of first_place b) e)

pub named_total : IsTotalOrder named_cmp
named_total = then_total (on_texts (λ (f : NamedFact). f.area.program))
    (then_total (on_texts (λ (f : NamedFact). f.area.name))
    (then_total (on_total (λ (f : NamedFact). f.area.turn) nat_cmp_total)
    (then_total (on_total (λ (f : NamedFact). f.offset) nat_cmp_total) (on_total (λ (f : NamedFact). f.label) label_total))))

then_equal : (r s : Ordering) → ordering_then r s ≡ Equal → (r ≡ Equal) × (s ≡ Equal)
then_equal Less s e = absurd (let f : Less ≡ Equal = e in cc)
then_equal Equal s e = (refl, e)
then_equal Greater s e = absurd (let f : Greater ≡ Equal = e in cc)

pub named_exact : (f g : NamedFact) → named_cmp f g ≡ Equal → f ≡ g
named_exact f g e =
    let one = then_equal (slice_cmp nat_cmp f.area.program g.area.program) _ e in
    let two = then_equal (slice_cmp nat_cmp f.area.name g.area.name) _ one.1 in
    let three = then_equal (nat_cmp f.area.turn g.area.turn) _ two.1 in
    let four = then_equal (nat_cmp f.offset g.offset) (label_cmp f.label g.label) three.1 in
    let program : f.area.program ≡ g.area.program = exact_bytes f.area.program g.area.program one.0 in
    let name : f.area.name ≡ g.area.name = exact_bytes f.area.name g.area.name two.0 in
    let turn : f.area.turn ≡ g.area.turn = exact_unsigned f.area.turn g.area.turn three.0 in
    let offset : f.offset ≡ g.offset = exact_unsigned f.offset g.offset four.0 in
    let label : f.label ≡ g.label = label_exact f.label g.label four.1 in
    λ i. record { area = record { program = program i; name = name i; turn = turn i }; offset = offset i; label = label i }
