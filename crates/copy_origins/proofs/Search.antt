-- What a search by halves finds among items whose keys are in order.
use Rattle.std.proofs.Common.{◌≡◌, ℕ, zero, suc, ◌+◌, ◌<◌, ◌≤◌, Bool, true, false, ltb, List, [], ◌∷◌, length, get_or, Some, None, Ordering, Less, Equal, Greater, refl, sym, ap, ◌∙◌, subst, inl, inr, arith, add-one}
use Rattle.std.specs.Str.{bytes_eq}
use Rattle.std.specs.Ordering.{nat_cmp, is_lt, is_le, is_eq, ordering_index, ordering_reverse}
use Rattle.std.specs.Cmp.Lexicographic.{slice_cmp}
use Rattle.std.specs.List.Sorted.{IsSortedBy, IsNonDecreasingBy, IsPartitionedBy}
use Rattle.std.proofs.lemmas.Bool.{cases_lt, and_parts, cond-true, cond-false}
use Rattle.std.proofs.lemmas.Cmp.{nat_list_cmp_total}
use Rattle.std.proofs.lemmas.Map.Text.{is_eq-slice_cmp}
use Rattle.std.proofs.lemmas.List.{get_or_default}
use Rattle.std.proofs.lemmas.List.Sorted.{searchable_from_sorted, IsPartitionedBy-ltb}
use Rattle.copy_origins.specs.Keys.{first_with, is_before, are_in_order, IsPoint}

not_lt-reverse : (o p : Ordering) → is_le o ≡ true → p ≡ ordering_reverse o → is_lt p ≡ false
not_lt-reverse Less p le e = ap is_lt e
not_lt-reverse Equal p le e = ap is_lt e
not_lt-reverse Greater p le e = absurd (cc)

is_lt-index : (o : Ordering) → is_lt o ≡ ltb (ordering_index o) 1
is_lt-index Less = refl
is_lt-index Equal = refl
is_lt-index Greater = refl

not_eq-lt : (o : Ordering) → is_lt o ≡ true → is_eq o ≡ false
not_eq-lt Less h = refl
not_eq-lt Equal h = absurd (cc)
not_eq-lt Greater h = refl

-- what stands no lower than a greater one is greater
not_eq-above : (o p : Ordering) → is_lt o ≡ false → is_eq o ≡ false → ordering_index o ≤ ordering_index p → is_eq p ≡ false
not_eq-above Less p lt eq le = absurd (cc)
not_eq-above Equal p lt eq le = absurd (cc)
not_eq-above Greater Less lt eq le = refl
not_eq-above Greater Equal lt eq le = absurd (omega arith)
not_eq-above Greater Greater lt eq le = refl

module _ {X : Type 0} (key_of : X → List ℕ) where
  -- 0 where the item's key is less, 1 where it is the key, 2 where it is greater
  abbrev pub side_of : List ℕ → X → ℕ
  side_of key x = ordering_index (slice_cmp nat_cmp (key_of x) key)

  sorted-suc : (xs : List X) → are_in_order key_of xs ≡ true → (k : ℕ) (d : X) → suc k < length xs → is_lt (slice_cmp nat_cmp (key_of (get_or xs (suc k) d)) (key_of (get_or xs k d))) ≡ false
  sorted-suc [] h k d within = absurd (omega arith)
  sorted-suc (x ∷ []) h k d within = absurd (omega arith)
  sorted-suc (x ∷ next ∷ xs) h zero d within =
      not_lt-reverse (slice_cmp nat_cmp (key_of x) (key_of next)) _ (and_parts _ _ h).0 (nat_list_cmp_total.antisymm (key_of next) (key_of x))
  sorted-suc (x ∷ next ∷ xs) h (suc k) d within = sorted-suc (next ∷ xs) (and_parts _ _ h).1 k d (omega arith)

  sorted : (xs : List X) → are_in_order key_of xs ≡ true → IsSortedBy (λ a b. is_lt (slice_cmp nat_cmp (key_of a) (key_of b))) xs
  sorted xs h k d low within =
      subst (λ (j : ℕ). is_lt (slice_cmp nat_cmp (key_of (get_or xs j d)) (key_of (get_or xs k d))) ≡ false) (sym (add-one k)) (sorted-suc xs h k d (omega arith))

  -- the items of lesser keys come first, then those of the key, then those of greater keys
  pub sides-rise : (xs : List X) (key : List ℕ) → are_in_order key_of xs ≡ true → IsNonDecreasingBy (side_of key) xs
  sides-rise xs key h = searchable_from_sorted nat_list_cmp_total key_of xs key (sorted xs h)

  pub parted : (xs : List X) (key : List ℕ) → are_in_order key_of xs ≡ true → IsPartitionedBy (is_before key_of key) xs
  parted xs key h i j d le within here =
      let above = IsPartitionedBy-ltb (side_of key) xs 1 (sides-rise xs key h) i j d le within (sym (is_lt-index (slice_cmp nat_cmp (key_of (get_or xs j d)) key)) ∙ here) in
      is_lt-index (slice_cmp nat_cmp (key_of (get_or xs i d)) key) ∙ above

  -- the item has another key
  abbrev Differs : List ℕ → X → Type 0
  Differs key x = bytes_eq (key_of x) key ≡ false

  differs-before : (key : List ℕ) (x : X) → is_before key_of key x ≡ true → Differs key x
  differs-before key x h = sym (is_eq-slice_cmp (key_of x) key) ∙ not_eq-lt (slice_cmp nat_cmp (key_of x) key) h

  -- no item has the key
  none-with : (xs : List X) (key : List ℕ) → ((k : ℕ) (d : X) → k < length xs → Differs key (get_or xs k d)) → first_with key_of key xs ≡ None
  none-with [] key h = refl
  none-with (x ∷ xs) key h = cond-false _ _ _ (h 0 x (omega arith)) ∙ none-with xs key (λ k d within. h (suc k) d (omega arith))

  -- the first item with the key
  first-with : (xs : List X) (key : List ℕ) (i : ℕ) (d : X) → i < length xs → ((k : ℕ) (d : X) → k < i → Differs key (get_or xs k d)) → bytes_eq (key_of (get_or xs i d)) key ≡ true → first_with key_of key xs ≡ Some (get_or xs i d)
  first-with [] key i d within before here = absurd (omega arith)
  first-with (x ∷ xs) key zero d within before here = cond-true _ _ _ here
  first-with (x ∷ xs) key (suc i) d within before here =
      cond-false _ _ _ (before 0 x (omega arith)) ∙ first-with xs key i d (omega arith) (λ k d within. before (suc k) d (omega arith)) here

  pub found-at : (xs : List X) (key : List ℕ) (i : ℕ) (d : X) → IsPoint key_of xs key i → i < length xs → bytes_eq (key_of (get_or xs i d)) key ≡ true → first_with key_of key xs ≡ Some (get_or xs i d)
  found-at xs key i d point within here =
      first-with xs key i d within (λ k e below. differs-before key (get_or xs k e) (point.0 k e (omega arith) below)) here

  pub missing-at : (xs : List X) (key : List ℕ) (i : ℕ) (d : X) → are_in_order key_of xs ≡ true → IsPoint key_of xs key i → i < length xs → bytes_eq (key_of (get_or xs i d)) key ≡ false → first_with key_of key xs ≡ None
  missing-at xs key i d ordered point within here = none-with xs key differs
    where
      here_at : (e : X) → is_eq (slice_cmp nat_cmp (key_of (get_or xs i e)) key) ≡ false
      here_at e = is_eq-slice_cmp (key_of (get_or xs i e)) key ∙ ap (λ (x : X). bytes_eq (key_of x) key) (get_or_default xs i e d within) ∙ here

      differs : (k : ℕ) (e : X) → k < length xs → Differs key (get_or xs k e)
      differs k e below =
          elim (cases_lt k i) [
            | inl before ↦ differs-before key (get_or xs k e) (point.0 k e (omega arith) before)
            | inr after ↦
                sym (is_eq-slice_cmp (key_of (get_or xs k e)) key)
                ∙ not_eq-above (slice_cmp nat_cmp (key_of (get_or xs i e)) key) _ (point.1 i e (omega arith) within) (here_at e) (sides-rise xs key ordered i k e after below)
          ]

  pub missing-past : (xs : List X) (key : List ℕ) (i : ℕ) → IsPoint key_of xs key i → length xs ≤ i → first_with key_of key xs ≡ None
  missing-past xs key i point past =
      none-with xs key (λ k d below. differs-before key (get_or xs k d) (point.0 k d (omega arith) (omega arith)))

  -- what a look at the middle says of all on one side of it
  pub all-before : (xs : List X) (key : List ℕ) (i : ℕ) → are_in_order key_of xs ≡ true → i < length xs → ((d : X) → is_before key_of key (get_or xs i d) ≡ true)
      → (k : ℕ) (d : X) → k < i + 1 → is_before key_of key (get_or xs k d) ≡ true
  all-before xs key i ordered within here k d below = parted xs key ordered k i d (omega arith) within (here d)

  pub none-before : (xs : List X) (key : List ℕ) (i : ℕ) → are_in_order key_of xs ≡ true → ((d : X) → is_before key_of key (get_or xs i d) ≡ false)
      → (k : ℕ) (d : X) → i ≤ k → k < length xs → is_before key_of key (get_or xs k d) ≡ false
  none-before xs key i ordered here k d above within =
      elim (is_before key_of key (get_or xs k d)) as (λ (b : Bool). is_before key_of key (get_or xs k d) ≡ b → b ≡ false) [
        | true ↦ λ e. let none : false ≡ true = sym (here d) ∙ parted xs key ordered i k d above within e in cc
        | false ↦ λ e. refl
      ] refl
