-- Laws of texts that are copied byte by byte.
use Rattle.std.proofs.Common.{◌≡◌, ℕ, ◌+◌, ◌-◌, ◌<◌, ◌≤◌, List, [], ◌∷◌, ◌++◌, length, take, get_or, set, replicate, slice_index_or, refl, sym, ap, ◌∙◌, inl, inr, arith}
use Rattle.std.proofs.lemmas.Bool.{cases_lt}
use Rattle.std.proofs.lemmas.List.{length-append, length-replicate, get_or_append_left, get_or-append_right, get_or-replicate, get_or_default, get_or_past, take_more, take_more_set, append-nil, take-append-le, take_all}
use Rattle.byte_lists.specs.Text.{filled, copied}

length-filled : (n : ℕ) (xs : List ℕ) → n ≤ length (filled n xs)
length-filled n xs = omega (arith, length-append xs (replicate (n - length xs) 32), length-replicate {A = ℕ} (n - length xs) 32)

-- a byte of a text with spaces behind it
filled_at : (xs : List ℕ) (n i : ℕ) → i < n → get_or (filled n xs) i 0 ≡ slice_index_or xs i 32
filled_at xs n i within =
    elim (cases_lt i (length xs)) [
      | inl inside ↦ get_or_append_left xs (replicate (n - length xs) 32) 0 i inside ∙ get_or_default xs i 0 32 inside
      | inr behind ↦ let room : i - length xs < n - length xs = omega arith in
          get_or-append_right xs (replicate (n - length xs) 32) (length xs) i 0 refl behind ∙ get_or-replicate (n - length xs) (i - length xs) 32 0 room ∙ sym (get_or_past xs i 32 behind)
    ]

-- a text that is cut first and then filled
pub fitted : (n : ℕ) (xs : List ℕ) → take n xs ++ replicate (n - length xs) 32 ≡ copied n xs
fitted n xs =
    elim (cases_lt n (length xs)) [
      | inl cut ↦ let none : n - length xs ≡ 0 = omega (arith, cut) in let short : n ≤ length xs = omega (arith, cut) in
          ap (λ (k : ℕ). take n xs ++ replicate k 32) none ∙ append-nil (take n xs) ∙ sym (take-append-le n xs (replicate (n - length xs) 32) short)
      | inr fills ↦ let all : length (filled n xs) ≤ n = omega (arith, fills, length-append xs (replicate (n - length xs) 32), length-replicate {A = ℕ} (n - length xs) 32) in
          ap (λ (front : List ℕ). front ++ replicate (n - length xs) 32) (take_all n xs fills) ∙ sym (take_all n (filled n xs) all)
    ]

-- one byte more
pub copy_more : (into xs : List ℕ) (n i b : ℕ) → i < n → i < length into → b ≡ slice_index_or xs i 32 → take i into ≡ take i (filled n xs) → take (i + 1) (set into i b) ≡ take (i + 1) (filled n xs)
copy_more into xs n i b within room same before =
    let long : i < length (filled n xs) = omega (arith, length-filled n xs) in
    take_more_set into i b room
    ∙ ap (λ c. take i into ++ c ∷ []) (same ∙ sym (filled_at xs n i within))
    ∙ ap (λ (f : List ℕ). f ++ get_or (filled n xs) i 0 ∷ []) before
    ∙ sym (take_more (filled n xs) i 0 long)
