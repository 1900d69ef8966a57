-- Years in order end in order and begin in order.
use Rattle.std.proofs.Common.{◌≡◌, ◌⊎◌, ℕ, zero, suc, ◌+◌, ◌<◌, ◌≤◌, Bool, true, false, ◌&&◌, not, inl, inr, List, [], ◌∷◌, length, map, get_or, ap, subst, arith}
use Rattle.std.specs.List.{AllByRecursion}
use Rattle.std.specs.List.Sorted.{IsPartitionedBy}
use Rattle.std.specs.Prelude.{Some, None}
use Rattle.std.proofs.lemmas.Bool.{cases_lt}
use Rattle.y2k_base.specs.declared.place.AreaId.{AreaId}
use Rattle.y2k_base.specs.declared.place.BytePlace.{BytePlace}
use Rattle.y2k_base.specs.declared.place.Span.{Span}
use Rattle.year_pairs.specs.declared.year.Year.{Year}
use Rattle.year_pairs.specs.declared.year.YearKind.{YearKind}
use Rattle.year_pairs.specs.declared.year.YearKind.TheVariants as kinds
use Rattle.year_pairs.specs.Years.{width, AreInOrder, EndsBefore}
use Rattle.window_modes.specs.declared.modes.YearMode.{YearMode}
use Rattle.year_index.specs.Years.{end_of, ends_by, begins_before, covers, goes_across, meets, first_where}
use Rattle.year_index.proofs.Search.{IsPoint, first_found, none_found}
use Rattle.year_index.proofs.Bounds.{ended_covers, ended_across, later_covers, later_across, earlier_ended, earlier_begun, ended_begun, met}

width_some : (kind : YearKind) → 0 < width kind
width_some kinds.Pair = omega arith
width_some (kinds.Packed digits unit) = omega arith

begins_low : (m : YearMode) → m.year.place.offset < end_of m
begins_low m = omega (arith, width_some m.year.kind)

later_at : (y : Year) (ms : List YearMode) → AllByRecursion (EndsBefore y) (map (λ (m : YearMode). m.year) ms) → (j : ℕ) (d : YearMode) → j < length ms → EndsBefore y (get_or ms j d).year
later_at y [] h j d l = absurd (omega (arith, l))
later_at y (m ∷ ms) h zero d l = h.0
later_at y (m ∷ ms) h (suc j) d l = later_at y ms h.1 j d (omega (arith, l))

ordered_at : (ms : List YearMode) → AreInOrder (map (λ (m : YearMode). m.year) ms) → (i j : ℕ) (d : YearMode) → i < j → j < length ms → EndsBefore (get_or ms i d).year (get_or ms j d).year
ordered_at [] h i j d l w = absurd (omega (arith, w))
ordered_at (m ∷ ms) h i zero d l w = absurd (omega (arith, l))
ordered_at (m ∷ ms) h zero (suc j) d l w = later_at m.year ms h.0 j d (omega (arith, w))
ordered_at (m ∷ ms) h (suc i) (suc j) d l w = ordered_at ms h.1 i j d (omega (arith, l)) (omega (arith, w))

-- the order in numbers
abbrev pub Precedes : YearMode → YearMode → Type 0
Precedes m n = (m.year.place.area.0 < n.year.place.area.0) ⊎ ((m.year.place.area.0 ≡ n.year.place.area.0) × (end_of m ≤ n.year.place.offset))

precedes : (m n : YearMode) → EndsBefore m.year n.year → Precedes m n
precedes m n (inl less) = inl less
precedes m n (inr same) = inr (ap (λ (a : AreaId). a.0) same.0, same.1)

module _ (ms : List YearMode) (ordered : AreInOrder (map (λ (m : YearMode). m.year) ms)) where
  parted_by : (passes : YearMode → Bool) → ((m n : YearMode) → Precedes m n → passes n ≡ true → passes m ≡ true) → IsPartitionedBy passes ms
  parted_by passes earlier i j d low l h = elim (cases_lt i j) [
    | inl less ↦ earlier (get_or ms i d) (get_or ms j d) (precedes (get_or ms i d) (get_or ms j d) (ordered_at ms ordered i j d less l)) h
    | inr more ↦ let same : j ≡ i = omega (arith, low, more) in subst (λ (n : ℕ). passes (get_or ms n d) ≡ true) same h
  ]

  pub parted_ended : (area offset : ℕ) → IsPartitionedBy (ends_by area offset) ms
  parted_ended area offset = parted_by (ends_by area offset) (λ m n before h.
      let low : n.year.place.offset ≤ end_of n = omega (arith, begins_low n) in
      earlier_ended m.year.place.area.0 area (end_of m) offset n.year.place.area.0 n.year.place.offset (end_of n) before low h)

  pub parted_begun : (area offset : ℕ) → IsPartitionedBy (begins_before area offset) ms
  parted_begun area offset = parted_by (begins_before area offset) (λ m n before h.
      let low : m.year.place.offset ≤ end_of m = omega (arith, begins_low m) in
      earlier_begun m.year.place.area.0 area m.year.place.offset (end_of m) offset n.year.place.area.0 n.year.place.offset before low h)

  -- A test that no year passes that has ended, and none behind one that has not ended.
  module _ (area offset : ℕ) (holds : YearMode → Bool) (not_ended : (m : YearMode) → ends_by area offset m ≡ true → holds m ≡ false)
      (not_later : (m n : YearMode) → ends_by area offset m ≡ false → Precedes m n → holds n ≡ false) (count : ℕ) (point : IsPoint (ends_by area offset) ms count) where
    pub found_at : (d : YearMode) → count < length ms → holds (get_or ms count d) ≡ true → first_where holds ms ≡ Some (get_or ms count d)
    found_at d l h = first_found holds ms count d (λ k m. not_ended (get_or ms k d) (point.0 k d (omega arith) m)) l h

    pub none_at : ((d : YearMode) → count < length ms → holds (get_or ms count d) ≡ false) → first_where holds ms ≡ None
    none_at h = none_found holds ms (λ k d l. elim (cases_lt k count) [
      | inl before ↦ not_ended (get_or ms k d) (point.0 k d (omega arith) before)
      | inr from ↦ elim (cases_lt count k) [
        | inl behind ↦
            let here : count < length ms = omega (arith, behind, l) in
            not_later (get_or ms count d) (get_or ms k d) (point.1 count d (omega arith) here) (precedes (get_or ms count d) (get_or ms k d) (ordered_at ms ordered count k d behind l))
        | inr at ↦ let same : count ≡ k = omega (arith, at, from) in subst (λ (n : ℕ). holds (get_or ms n d) ≡ false) same (h d (omega (arith, same, l)))
      ]
    ])

-- The years that have a byte, or go across an edge, are such tests.

pub covers_not_ended : (place : BytePlace) (m : YearMode) → ends_by place.area.0 place.offset m ≡ true → covers place m ≡ false
covers_not_ended place m h = ended_covers m.year.place.area.0 place.area.0 m.year.place.offset place.offset (end_of m) h

pub covers_not_later : (place : BytePlace) (m n : YearMode) → ends_by place.area.0 place.offset m ≡ false → Precedes m n → covers place n ≡ false
covers_not_later place m n h before = later_covers m.year.place.area.0 place.area.0 (end_of m) place.offset n.year.place.area.0 n.year.place.offset (end_of n) h before

pub across_not_ended : (place : BytePlace) (m : YearMode) → ends_by place.area.0 place.offset m ≡ true → goes_across place m ≡ false
across_not_ended place m h = ended_across m.year.place.area.0 place.area.0 m.year.place.offset place.offset (end_of m) h

pub across_not_later : (place : BytePlace) (m n : YearMode) → ends_by place.area.0 place.offset m ≡ false → Precedes m n → goes_across place n ≡ false
across_not_later place m n h before = later_across m.year.place.area.0 place.area.0 (end_of m) place.offset n.year.place.area.0 n.year.place.offset (end_of n) h before

-- Those in a span have begun by its end, and not ended by its start.

pub ended_has_begun : (area from to : ℕ) → from ≤ to → (m : YearMode) → ends_by area from m ≡ true → begins_before area to m ≡ true
ended_has_begun area from to l m h = ended_begun m.year.place.area.0 area m.year.place.offset (end_of m) from to (begins_low m) l h

pub meets_is : (span : Span) (m : YearMode) → meets span m ≡ (not (ends_by span.area.0 span.offset m) && begins_before span.area.0 (span.offset + span.length) m)
meets_is span m = met m.year.place.area.0 span.area.0 m.year.place.offset (end_of m) span.offset (span.offset + span.length)
