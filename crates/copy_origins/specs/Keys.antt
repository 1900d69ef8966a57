-- Items that are found by keys of bytes.
use Rattle.std.specs.Prelude.{ℕ, ◌≡◌, Bool, true, false, ◌&&◌, List, [], ◌∷◌, Option, Some, None, if◌then◌else◌}
use Rattle.std.specs.Str.{bytes_eq}
use Rattle.std.specs.Cmp.Lexicographic.{slice_cmp}
use Rattle.std.specs.Ordering.{nat_cmp, is_lt, is_le}
use Rattle.std.specs.List.Sorted.{IsPartitionPoint}

module _ {X : Type 0} (key_of : X → List ℕ) where
  -- the first of the items with the key, if one has it
  abbrev pub first_with : List ℕ → List X → Option X
  first_with key [] = None
  first_with key (x ∷ xs) = if bytes_eq (key_of x) key then Some x else first_with key xs

  -- whether the item's key is less, in byte order
  abbrev pub is_before : List ℕ → X → Bool
  is_before key x = is_lt (slice_cmp nat_cmp (key_of x) key)

  -- whether the item's key is no greater than that of the next one
  abbrev pub is_in_order : X → List X → Bool
  is_in_order x [] = true
  is_in_order x (next ∷ xs) = is_le (slice_cmp nat_cmp (key_of x) (key_of next))

  -- whether no item stands before one of a lesser key
  abbrev pub are_in_order : List X → Bool
  are_in_order [] = true
  are_in_order (x ∷ xs) = is_in_order x xs && are_in_order xs

  -- the items before i have lesser keys, and those from i on have not
  abbrev pub IsPoint : List X → List ℕ → ℕ → Type 0
  IsPoint xs key i = IsPartitionPoint (λ x. is_before key x ≡ true) (λ x. is_before key x ≡ false) xs i
