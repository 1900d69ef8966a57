-- Where no byte lacks a neighbour, each byte of a year belongs to a whole one.
use Rattle.std.proofs.Common.{◌≡◌, inl, inr, arith, ℕ, zero, suc, ◌+◌, ◌-◌, ◌/◌, ◌<◌, ◌≤◌, List, refl, ap, subst, Contains}
use Rattle.y2k_base.specs.declared.place.AreaId.{AreaId}
use Rattle.year_labels.specs.declared.label.Fact.{Fact}
use Rattle.year_labels.specs.declared.label.Label.{Label}
use Rattle.year_labels.specs.declared.label.Label.TheVariants as labels
use Rattle.year_labels.specs.Facts.{fact_of}
use Rattle.year_pairs.specs.declared.year.Year.{Year}
use Rattle.year_pairs.specs.declared.year.YearKind.TheVariants as kinds
use Rattle.year_pairs.specs.Years.{IsYear}
use Rattle.year_pairs.specs.Lone.{HasNeighbours, IsByteOfYear, AreCovered}
use Rattle.year_pairs.proofs.Rows.{same_fact}

-- byte k of a packed number at an offset
abbrev half : AreaId → ℕ → ℕ → ℕ → ℕ → Fact
half area offset digits unit k = fact_of (record { area = area; offset = offset }) (labels.Packed digits unit k)

moved : (facts : List Fact) (area : AreaId) (o p d u k m : ℕ) → o ≡ p → k ≡ m → Contains facts (half area o d u k) → Contains facts (half area p d u m)
moved facts area o p d u k m e f h =
    let label : labels.Packed d u k ≡ labels.Packed d u m = ap (labels.Packed d u) f in
    subst (λ (x : Fact). Contains facts x) (same_fact area o p (labels.Packed d u k) (labels.Packed d u m) e label) h

module _ (facts : List Fact) (whole : (f : Fact) → Contains facts f → HasNeighbours facts f) where
  -- from a byte on to the last
  onward : (n : ℕ) (area : AreaId) (o d u k : ℕ) → k + n ≤ d / 2 → Contains facts (half area o d u k) → Contains facts (half area (o + n) d u (k + n))
  onward zero area o d u k low at = moved facts area o (o + 0) d u k (k + 0) (omega arith) (omega arith) at
  onward (suc n) area o d u k low at =
      let before : Contains facts (half area (o + n) d u (k + n)) = onward n area o d u k (omega (arith, low)) at in
      elim (whole (half area (o + n) d u (k + n)) before).0 [
        | inl last ↦ absurd (omega (arith, last, low))
        | inr next ↦ moved facts area (o + n + 1) (o + suc n) d u (k + n + 1) (k + suc n) (omega arith) (omega arith) next.1
      ]

  -- from a byte back to the first
  back : (n : ℕ) (area : AreaId) (o d u k : ℕ) → n ≤ k → Contains facts (half area o d u k) → (n ≤ o) × Contains facts (half area (o - n) d u (k - n))
  back zero area o d u k low at = (omega arith, moved facts area o (o - 0) d u k (k - 0) (omega arith) (omega arith) at)
  back (suc n) area o d u k low at =
      let before : (n ≤ o) × Contains facts (half area (o - n) d u (k - n)) = back n area o d u k (omega (arith, low)) at in
      elim (whole (half area (o - n) d u (k - n)) before.1).1 [
        | inl first ↦ absurd (omega (arith, first, low))
        | inr h ↦ (omega (arith, h.1), moved facts area (o - n - 1) (o - suc n) d u (k - n - 1) (k - suc n) (omega arith) (omega arith) h.2)
      ]

  up_to_last : (area : AreaId) (o d u k : ℕ) → Contains facts (half area o d u k) → k ≤ d / 2
  up_to_last area o d u k at = elim (whole (half area o d u k) at).0 [ inl last ↦ omega (arith, last) | inr next ↦ omega (arith, next.0) ]

  packed_year : (area : AreaId) (o d u k : ℕ) → Contains facts (half area o d u k) → IsByteOfYear facts (half area o d u k)
  packed_year area o d u k at =
      let first : (k ≤ o) × Contains facts (half area (o - k) d u (k - k)) = back k area o d u k (omega arith) at in
      let none : k - k ≡ 0 = omega arith in
      let begins : Contains facts (half area (o - k) d u 0) = moved facts area (o - k) (o - k) d u (k - k) 0 refl none first.1 in
      let year : Year = record { place = record { area = area; offset = o - k }; kind = kinds.Packed d u } in
      let is : IsYear facts year = λ m low. moved facts area (o - k + m) (o - k + m) d u (0 + m) m refl (omega arith) (onward m area (o - k) d u 0 (omega (arith, low)) begins) in
      let within : k < d / 2 + 1 = omega (arith, up_to_last area o d u k at) in
      let offset : o ≡ o - k + k = omega (arith, first.0) in
      (year, k, is, within, same_fact area o (o - k + k) (labels.Packed d u k) (labels.Packed d u k) offset refl)

  pair_from : (area : AreaId) (o : ℕ) → Contains facts (fact_of (record { area = area; offset = o }) labels.Tens) → IsYear facts (record { place = record { area = area; offset = o }; kind = kinds.Pair })
  pair_from area o at zero low =
      let offset : o ≡ o + 0 = omega arith in
      subst (λ (x : Fact). Contains facts x) (same_fact area o (o + 0) labels.Tens labels.Tens offset refl) at
  pair_from area o at (suc zero) low = (whole (fact_of (record { area = area; offset = o }) labels.Tens) at).0
  pair_from area o at (suc (suc k)) low = absurd (omega (arith, low))

  byte_of_year : (area : AreaId) (o : ℕ) (l : Label) → (l ≡ labels.Plain → ⊥) → Contains facts (fact_of (record { area = area; offset = o }) l) → IsByteOfYear facts (fact_of (record { area = area; offset = o }) l)
  byte_of_year area o labels.Tens of_year at =
      let year : Year = record { place = record { area = area; offset = o }; kind = kinds.Pair } in
      let offset : o ≡ o + 0 = omega arith in
      (year, 0, pair_from area o at, omega arith, same_fact area o (o + 0) labels.Tens labels.Tens offset refl)
  byte_of_year area o labels.Units of_year at =
      let h : (1 ≤ o) × Contains facts (fact_of (record { area = area; offset = o - 1 }) labels.Tens) = (whole (fact_of (record { area = area; offset = o }) labels.Units) at).1 in
      let year : Year = record { place = record { area = area; offset = o - 1 }; kind = kinds.Pair } in
      let offset : o ≡ o - 1 + 1 = omega (arith, h.0) in
      (year, 1, pair_from area (o - 1) h.1, omega arith, same_fact area o (o - 1 + 1) labels.Units labels.Units offset refl)
  byte_of_year area o labels.Plain of_year at = absurd (of_year refl)
  byte_of_year area o (labels.Packed d u k) of_year at = packed_year area o d u k at

  pub covered : AreCovered facts
  covered f at of_year = byte_of_year f.place.area f.place.offset f.label of_year at
