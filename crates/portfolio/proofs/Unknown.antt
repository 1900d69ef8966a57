-- The first key of a table that isn't known is the least one.
use Rattle.std.proofs.Common.{◌≡◌, ℕ, Bool, true, false, not, ◌&&◌, cond, List, [], ◌∷◌, Option, Some, None, is_some, unwrap_or, String, Global, Ordering, Less, Equal, Greater, nat_cmp, string_bytes, refl, sym, ap, ◌∙◌, subst}
use Rattle.std.proofs.lemmas.Bool.{true≢false, and_parts, not_from_true}
use Rattle.std.specs.Cmp.Lexicographic.{slice_cmp}
use Rattle.std.specs.List.{AllByRecursion}
use Rattle.std.specs.List.Sorted.{IsStrictlySortedBy}
use Rattle.std.specs.Map.{keys_of}
use Rattle.std.specs.Ordering.{match_ordering, is_lt, is_gt}
use Rattle.std.specs.String.{string_cmp}
use Rattle.toml.specs.Data.{Data, get_member}
use Rattle.toml.specs.View.{view, members_view}
use Rattle.toml.proofs.Views.{Entry}
use Rattle.portfolio.specs.Faults.{IsLeast, NonePasses}
use Rattle.portfolio.proofs.Order.{below, same_text, itself}

abbrev pub first_unknown : (List ℕ → Bool) → List Entry → Option (List ℕ)
first_unknown known [] = None
first_unknown known (e ∷ es) = cond (known (string_bytes e.0)) (first_unknown known es) (Some (string_bytes e.0))

-- a key of the entries that isn't known
abbrev pub is_new : (List ℕ → Bool) → List Entry → List ℕ → Bool
is_new known es q = is_some (get_member q (members_view es)) && not (known q)

known_first : (b : Bool) (rest : Option (List ℕ)) (k : List ℕ) → cond b rest (Some k) ≡ None → (b ≡ true) × (rest ≡ None)
known_first true rest k h = (refl, h)
known_first false rest k h = absurd (true≢false (ap is_some h))

none_step : (o : Ordering) (d : Data) (rest : Option Data) (n : Bool) → (is_some rest && n) ≡ false → (o ≡ Equal → n ≡ false) → (is_some (match_ordering o rest (Some d) rest) && n) ≡ false
none_step Less d rest n h k = h
none_step Equal d rest n h k = k refl
none_step Greater d rest n h k = h

known_alike : (known : List ℕ → Bool) (q x : List ℕ) → known x ≡ true → slice_cmp nat_cmp q x ≡ Equal → not (known q) ≡ false
known_alike known q x h e = not_from_true _ (subst (λ (t : List ℕ). known t ≡ true) (sym (same_text q x e)) h)

pub none_unknown : (known : List ℕ → Bool) (es : List Entry) → first_unknown known es ≡ None → NonePasses (is_new known es)
none_unknown known [] h q = refl
none_unknown known (e ∷ es) h q =
    let parts = known_first (known (string_bytes e.0)) _ _ h in
    none_step (slice_cmp nat_cmp q (string_bytes e.0)) (view e.1) _ (not (known q)) (none_unknown known es parts.1 q) (known_alike known q (string_bytes e.0) parts.0)

-- no key after another has a member where it isn't above that one
absent : (q : List ℕ) (x : String Global) (es : List Entry) → is_gt (slice_cmp nat_cmp q (string_bytes x)) ≡ false → AllByRecursion (λ y. string_cmp x y ≡ Less) (keys_of es) → get_member q (members_view es) ≡ None
absent q x [] g h = refl
absent q x (e ∷ es) g h = rw (below _ q (string_bytes x) (string_bytes e.0) refl g h.0) (absent q x es g h.1)

other_more : (o : Ordering) (d : Data) (rest : Option Data) (n : Bool) → (o ≡ Equal → n ≡ false) → (is_some (match_ordering o rest (Some d) rest) && n) ≡ true → (is_some rest && n) ≡ true
other_more Less d rest n k h = h
other_more Equal d rest n k h = absurd (true≢false (sym h ∙ k refl))
other_more Greater d rest n k h = h

key_more : (o : Ordering) (d : Data) (rest : Option Data) (n : Bool) → (is_some rest && n) ≡ true → (is_some (match_ordering o rest (Some d) rest) && n) ≡ true
key_more Less d rest n h = h
key_more Equal d rest n h = (and_parts (is_some rest) n h).1
key_more Greater d rest n h = h

-- where the first key isn't known
not_less : (known : List ℕ → Bool) (e : Entry) (es : List Entry) (q : List ℕ) (o : Ordering) → AllByRecursion (λ y. string_cmp e.0 y ≡ Less) (keys_of es)
    → slice_cmp nat_cmp q (string_bytes e.0) ≡ o → is_new known (e ∷ es) q ≡ true → is_lt o ≡ false
not_less known e es q Less h c t =
    let gone : is_new known (e ∷ es) q ≡ false = rw (c, absent q e.0 es (ap is_gt c) h) refl in
    absurd (true≢false (sym t ∙ gone))
not_less known e es q Equal h c t = refl
not_less known e es q Greater h c t = refl

first_is_least : (known : List ℕ → Bool) (e : Entry) (es : List Entry) → known (string_bytes e.0) ≡ false → AllByRecursion (λ y. string_cmp e.0 y ≡ Less) (keys_of es)
    → IsLeast (is_new known (e ∷ es)) (string_bytes e.0)
first_is_least known e es n h = (rw (itself (string_bytes e.0), n) refl, λ q t. not_less known e es q (slice_cmp nat_cmp q (string_bytes e.0)) h refl t)

later_is_least : (known : List ℕ → Bool) (e : Entry) (es : List Entry) (k : List ℕ) → known (string_bytes e.0) ≡ true → IsLeast (is_new known es) k → IsLeast (is_new known (e ∷ es)) k
later_is_least known e es k n least = (
  key_more (slice_cmp nat_cmp k (string_bytes e.0)) (view e.1) _ (not (known k)) least.0,
  λ q t. least.1 q (other_more (slice_cmp nat_cmp q (string_bytes e.0)) (view e.1) _ (not (known q)) (known_alike known q (string_bytes e.0) n) t),
)

found_step : (known : List ℕ → Bool) (e : Entry) (es : List Entry) (k : List ℕ) (b : Bool) → known (string_bytes e.0) ≡ b → AllByRecursion (λ y. string_cmp e.0 y ≡ Less) (keys_of es) → (first_unknown known es ≡ Some k → IsLeast (is_new known es) k)
    → cond b (first_unknown known es) (Some (string_bytes e.0)) ≡ Some k → IsLeast (is_new known (e ∷ es)) k
found_step known e es k true n h more f = later_is_least known e es k n (more f)
found_step known e es k false n h more f = subst (λ (t : List ℕ). IsLeast (is_new known (e ∷ es)) t) (ap (λ (o : Option (List ℕ)). unwrap_or o []) f) (first_is_least known e es n h)

pub found_unknown : (known : List ℕ → Bool) (es : List Entry) (k : List ℕ) → IsStrictlySortedBy string_cmp (keys_of es) → first_unknown known es ≡ Some k → IsLeast (is_new known es) k
unfolding IsStrictlySortedBy
found_unknown known [] k h f = absurd (true≢false (sym (ap is_some f)))
found_unknown known (e ∷ es) k h f = found_step known e es k (known (string_bytes e.0)) refl h.0 (λ g. found_unknown known es k h.1 g) f
