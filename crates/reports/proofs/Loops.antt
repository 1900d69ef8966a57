-- One more row.
use Rattle.std.proofs.Common.{◌≡◌, ◌+◌, ◌++◌, ◌∷◌, [], ℕ, List, take, map, refl}
use Rattle.std.specs.Prelude.{slice_get, Some}
use Rattle.std.proofs.lemmas.Grind.{flat_map-append}
use Rattle.std.proofs.lemmas.List.{append-nil, map-append, take_more}
use Rattle.std.proofs.lemmas.Option.{get_or_from_slice_get, slice_get_within}
use Rattle.std.specs.List.{flat_map}
use Rattle.reports.specs.Rows.{row_text, rows_text}

-- a row for each of one more
pub mapped_more : {A : Type 0} (f : A → List (List ℕ)) (xs : List A) (i : ℕ) (x : A) → slice_get xs i ≡ Some x
    → rows_text (map f (take (i + 1) xs)) ≡ rows_text (map f (take i xs)) ++ row_text (f x)
mapped_more f xs i x found =
    let same = get_or_from_slice_get xs i x x found in
    rw (take_more xs i x (slice_get_within xs i x found), same, map-append f (take i xs) (x ∷ []), flat_map-append row_text (map f (take i xs)) (f x ∷ []), append-nil (row_text (f x))) refl

-- the rows of one more
pub flat_more : {A : Type 0} (f : A → List (List (List ℕ))) (xs : List A) (i : ℕ) (x : A) → slice_get xs i ≡ Some x
    → rows_text (flat_map f (take (i + 1) xs)) ≡ rows_text (flat_map f (take i xs)) ++ rows_text (f x)
flat_more f xs i x found =
    let same = get_or_from_slice_get xs i x x found in
    rw (take_more xs i x (slice_get_within xs i x found), same, flat_map-append f (take i xs) (x ∷ []), append-nil (f x), flat_map-append row_text (flat_map f (take i xs)) (f x)) refl
