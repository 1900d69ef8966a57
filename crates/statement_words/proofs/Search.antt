-- The first edit of a word, found by a binary search.
use Rattle.std.proofs.Common.{◌≡◌, ℕ, zero, suc, ◌<◌, ◌≤◌, ◌==◌, ◌&&◌, Bool, true, false, cond, ltb, List, [], ◌∷◌, length, Some, None, get_or, inl, inr, refl, sym, ap, ◌∙◌, arith}
use Rattle.std.specs.List.{filter}
use Rattle.std.specs.List.Sorted.{IsPartitionedBy, IsPartitionPoint, IsNonDecreasingBy}
use Rattle.std.specs.declared.cmp.Ordering.{Ordering}
use Rattle.std.specs.declared.cmp.Ordering.TheVariants.{Less, Equal, Greater}
use Rattle.std.specs.Ordering.{nat_cmp, is_lt, is_eq, ordering_index}
use Rattle.std.specs.Cmp.{unsigned_ties, tied_then}
use Rattle.std.proofs.lemmas.Bool.{cases_lt}
use Rattle.std.proofs.lemmas.List.{get_or_default}
use Rattle.std.proofs.lemmas.List.Sorted.{searchable_from_sorted, IsPartitionedBy-ltb}
use Rattle.y2k_base.specs.declared.edit.Edit.{Edit}
use Rattle.y2k_base.specs.declared.edit.WordPlace.{WordPlace}
use Rattle.y2k_base.specs.Edits.{word_of, place_cmp, AreInOrder, is_of, edits_of}
use Rattle.y2k_base.proofs.EditLaws.{place_total}
use Rattle.statement_words.specs.Edited.{comes_before, first_of}

is_of-cmp : (word : WordPlace) (e : Edit) → is_of word e ≡ is_eq (place_cmp (word_of e) word)
is_of-cmp word e =
    ap (λ (b : Bool). b && (e.position == word.position)) (unsigned_ties e.program word.program)
    ∙ ap (λ (b : Bool). is_eq (nat_cmp e.program word.program) && b) (unsigned_ties e.position word.position)
    ∙ tied_then (nat_cmp e.program word.program) (nat_cmp e.position word.position)

index_lt : (r : Ordering) → ltb (ordering_index r) 1 ≡ is_lt r
index_lt Less = refl
index_lt Equal = refl
index_lt Greater = refl

-- what comes before is no tie, and what neither comes before nor ties has the greatest index
less_eq : (r : Ordering) → is_lt r ≡ true → is_eq r ≡ false
less_eq Less h = refl
less_eq Equal h = cc
less_eq Greater h = refl

index_high : (r : Ordering) → is_lt r ≡ false → is_eq r ≡ false → 2 ≤ ordering_index r
index_high Less h k = cc
index_high Equal h k = cc
index_high Greater h k = omega arith

high_eq : (r : Ordering) → 2 ≤ ordering_index r → is_eq r ≡ false
high_eq Less h = refl
high_eq Equal h = absurd (omega (arith, h))
high_eq Greater h = refl

abbrev index : WordPlace → Edit → ℕ
index word e = ordering_index (place_cmp (word_of e) word)

rising : (xs : List Edit) (word : WordPlace) → AreInOrder xs → IsNonDecreasingBy (index word) xs
rising xs word sorted = searchable_from_sorted place_total word_of xs word sorted

pub parted : (xs : List Edit) (word : WordPlace) → AreInOrder xs → IsPartitionedBy (comes_before word) xs
parted xs word sorted i j d low l h =
    sym (index_lt (place_cmp (word_of (get_or xs i d)) word))
    ∙ IsPartitionedBy-ltb (index word) xs 1 (rising xs word sorted) i j d low l (index_lt (place_cmp (word_of (get_or xs j d)) word) ∙ h)

abbrev pub IsPoint : WordPlace → List Edit → ℕ → Type 0
IsPoint word xs count = IsPartitionPoint (λ e. comes_before word e ≡ true) (λ e. comes_before word e ≡ false) xs count

first_found : (p : Edit → Bool) (xs : List Edit) (i : ℕ) (d : Edit) → ((k : ℕ) → k < i → p (get_or xs k d) ≡ false) → i < length xs → p (get_or xs i d) ≡ true → first_of (filter p xs) ≡ Some (get_or xs i d)
first_found p [] i d before l h = absurd (omega (arith, l))
first_found p (x ∷ xs) zero d before l h = ap (λ (b : Bool). first_of (cond b (x ∷ filter p xs) (filter p xs))) h
first_found p (x ∷ xs) (suc i) d before l h =
    ap (λ (b : Bool). first_of (cond b (x ∷ filter p xs) (filter p xs))) (before 0 (omega arith))
    ∙ first_found p xs i d (λ k m. before (suc k) (omega (arith, m))) (omega (arith, l)) h

none_found : (p : Edit → Bool) (xs : List Edit) → ((k : ℕ) (d : Edit) → k < length xs → p (get_or xs k d) ≡ false) → first_of (filter p xs) ≡ None
none_found p [] h = refl
none_found p (x ∷ xs) h =
    ap (λ (b : Bool). first_of (cond b (x ∷ filter p xs) (filter p xs))) (h 0 x (omega arith))
    ∙ none_found p xs (λ k d l. h (suc k) d (omega (arith, l)))

before_is_other : (xs : List Edit) (word : WordPlace) (count : ℕ) → IsPoint word xs count → (k : ℕ) (d : Edit) → k < count → is_of word (get_or xs k d) ≡ false
before_is_other xs word count point k d l = is_of-cmp word (get_or xs k d) ∙ less_eq (place_cmp (word_of (get_or xs k d)) word) (point.0 k d (omega arith) l)

pub found : (xs : List Edit) (word : WordPlace) (count : ℕ) (e : Edit) → IsPoint word xs count → count < length xs → e ≡ get_or xs count e → is_of word e ≡ true → Some e ≡ first_of (edits_of word xs)
found xs word count e point l same h =
    ap (λ (x : Edit). Some x) same
    ∙ sym (first_found (is_of word) xs count e (λ k m. before_is_other xs word count point k e m) l (ap (is_of word) (sym same) ∙ h))

pub past : (xs : List Edit) (word : WordPlace) (count : ℕ) → IsPoint word xs count → length xs ≤ count → None ≡ first_of (edits_of word xs)
past xs word count point l = sym (none_found (is_of word) xs (λ k d m. before_is_other xs word count point k d (omega (arith, l, m))))

pub absent : (xs : List Edit) (word : WordPlace) (count : ℕ) (e : Edit) → AreInOrder xs → IsPoint word xs count → count < length xs → e ≡ get_or xs count e → is_of word e ≡ false → None ≡ first_of (edits_of word xs)
absent xs word count e sorted point l same h =
    let here : (d : Edit) → get_or xs count d ≡ e = λ d. get_or_default xs count d e l ∙ sym same in
    sym (none_found (is_of word) xs (λ k d m. elim (cases_lt k count) [
      | inl before ↦ before_is_other xs word count point k d before
      | inr from ↦
          let high : 2 ≤ index word (get_or xs count d) =
          index_high (place_cmp (word_of (get_or xs count d)) word) (point.1 count d (omega arith) l)
          (sym (is_of-cmp word (get_or xs count d)) ∙ ap (is_of word) (here d) ∙ h) in
          let up : index word (get_or xs count d) ≤ index word (get_or xs k d) = rising xs word sorted count k d (omega (arith, from)) m in
          is_of-cmp word (get_or xs k d) ∙ high_eq (place_cmp (word_of (get_or xs k d)) word) (omega (arith, high, up))
    ]))
