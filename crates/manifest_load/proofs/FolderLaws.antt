-- The folder of a name by its last byte.
use Rattle.std.proofs.Common.{◌≡◌, ℕ, ◌+◌, ◌-◌, ◌≤◌, Bool, true, false, ◌||◌, ◌==◌, List, [], ◌∷◌, ◌++◌, length, take, slice_index_or, if◌then◌else◌, refl, ap, sym, ◌∙◌, subst, arith}
use Rattle.std.proofs.Math.Seq.{take-length}
use Rattle.std.proofs.lemmas.List.{take_more}
use Rattle.std.proofs.lemmas.Bool.{ne_eqb}
use Rattle.std.specs.List.{list_any}
use Rattle.manifest_load.specs.Folder.{is_slash, folder_of}

or_true : (a b : Bool) → b ≡ true → (a || b) ≡ true
or_true true b e = refl
or_true false b e = e

has_slash : (xs : List ℕ) (b : ℕ) → is_slash b ≡ true → list_any is_slash (xs ++ b ∷ []) ≡ true
has_slash [] b e = ap (λ (c : Bool). c || false) e
has_slash (x ∷ xs) b e = or_true (is_slash x) (list_any is_slash (xs ++ b ∷ [])) (has_slash xs b e)

pub at_slash : (xs : List ℕ) (b : ℕ) → is_slash b ≡ true → folder_of (xs ++ b ∷ []) ≡ xs ++ b ∷ []
at_slash [] b e = ap (λ (c : Bool). if (c || false) then b ∷ [] else []) e
at_slash (x ∷ xs) b e =
    ap (λ (c : Bool). if c then x ∷ folder_of (xs ++ b ∷ []) else []) (or_true (is_slash x) (list_any is_slash (xs ++ b ∷ [])) (has_slash xs b e))
    ∙ ap (λ (ys : List ℕ). x ∷ ys) (at_slash xs b e)

same_slash : (xs : List ℕ) (b : ℕ) → is_slash b ≡ false → list_any is_slash (xs ++ b ∷ []) ≡ list_any is_slash xs
same_slash [] b e = ap (λ (c : Bool). c || false) e
same_slash (x ∷ xs) b e = ap (λ (c : Bool). is_slash x || c) (same_slash xs b e)

pub at_other : (xs : List ℕ) (b : ℕ) → is_slash b ≡ false → folder_of (xs ++ b ∷ []) ≡ folder_of xs
at_other [] b e = ap (λ (c : Bool). if (c || false) then b ∷ [] else []) e
at_other (x ∷ xs) b e =
    ap (λ (c : Bool). if c then x ∷ folder_of (xs ++ b ∷ []) else []) (ap (λ (c : Bool). is_slash x || c) (same_slash xs b e))
    ∙ ap (λ (ys : List ℕ). if (is_slash x || list_any is_slash xs) then x ∷ ys else []) (at_other xs b e)

-- a name that isn't empty is all but its last byte, and that
parts : (xs : List ℕ) → 1 ≤ length xs → take (length xs - 1) xs ++ slice_index_or xs (length xs - 1) 0 ∷ [] ≡ xs
parts xs some =
    let up : length xs - 1 + 1 ≡ length xs = omega (arith, some) in
    sym (take_more xs (length xs - 1) 0 (omega (arith, some))) ∙ ap (λ (n : ℕ). take n xs) up ∙ take-length xs

pub whole : (xs : List ℕ) → 1 ≤ length xs → slice_index_or xs (length xs - 1) 0 ≡ 47 → xs ≡ folder_of xs
whole xs some e =
    sym (subst (λ (ys : List ℕ). folder_of ys ≡ ys) (parts xs some) (at_slash (take (length xs - 1) xs) (slice_index_or xs (length xs - 1) 0) (ap is_slash e)))

pub shorter : (xs : List ℕ) → 1 ≤ length xs → (slice_index_or xs (length xs - 1) 0 ≡ 47 → ⊥) → folder_of (take (length xs - 1) xs) ≡ folder_of xs
shorter xs some e =
    sym (at_other (take (length xs - 1) xs) (slice_index_or xs (length xs - 1) 0) (ne_eqb (slice_index_or xs (length xs - 1) 0) 47 e))
    ∙ ap folder_of (parts xs some)
