-- The first name that is counted twice is the least one.
use Rattle.std.proofs.Common.{◌≡◌, ℕ, ◌+◌, ◌<◌, Bool, true, false, cond, nat_le, List, [], ◌∷◌, length, get_or, take, Option, Some, None, is_some, unwrap_or, MatchOption, BTreeMap, Bor, Ordering, Less, Equal, Greater, nat_cmp, is_eq, bytes_eq, count_by, refl, sym, ap, ◌∙◌, subst, inl, inr}
use Rattle.std.proofs.lemmas.Bool.{true≢false, cases_Bool, false_from_ne_true}
use Rattle.std.proofs.lemmas.List.Sums.{count_by_more_yes, count_by_more_no}
use Rattle.std.proofs.lemmas.Map.Text.{btree_map_updates_str}
use Rattle.std.proofs.lemmas.Slice.Eq.{bytes_eq-Decides}
use Rattle.std.specs.Cmp.Lexicographic.{slice_cmp}
use Rattle.std.specs.BTreeMap.{is_at, UpdatesBy}
use Rattle.std.specs.List.{AllByRecursion}
use Rattle.std.specs.List.Sorted.{IsStrictlySortedBy}
use Rattle.std.specs.Map.{keys_of, lookup}
use Rattle.std.specs.Ordering.{is_lt, is_gt}
use Rattle.portfolio.specs.Faults.{IsLeast, NonePasses}
use Rattle.portfolio.specs.Counts.{count_in}
use Rattle.portfolio.proofs.Order.{below, itself}

abbrev pub Count : Type 0
Count = Bor (List ℕ) × ℕ

abbrev pub first_twice : List Count → Option (List ℕ)
first_twice [] = None
first_twice (e ∷ es) = cond (nat_le 2 e.1) (Some e.0.now) (first_twice es)

abbrev pub found_at : List ℕ → List Count → Option ℕ
found_at q es = lookup (is_at (λ (k : Bor (List ℕ)). slice_cmp nat_cmp q k.now)) es

abbrev is_double : List Count → List ℕ → Bool
is_double es q = nat_le 2 (unwrap_or (found_at q es) 0)

abbrev pub key_cmp : Bor (List ℕ) → Bor (List ℕ) → Ordering
key_cmp x y = slice_cmp nat_cmp x.now y.now

once_first : (b : Bool) (k : List ℕ) (rest : Option (List ℕ)) → cond b (Some k) rest ≡ None → (b ≡ false) × (rest ≡ None)
once_first true k rest h = absurd (true≢false (ap is_some h))
once_first false k rest h = (refl, h)

none_step : (b : Bool) (n : ℕ) (rest : Option ℕ) → nat_le 2 n ≡ false → nat_le 2 (unwrap_or rest 0) ≡ false → nat_le 2 (unwrap_or (cond b (Some n) rest) 0) ≡ false
none_step true n rest f g = f
none_step false n rest f g = g

pub none_twice : (es : List Count) → first_twice es ≡ None → NonePasses (is_double es)
none_twice [] h q = refl
none_twice (e ∷ es) h q =
    let parts = once_first (nat_le 2 e.1) _ _ h in
    none_step (is_eq (slice_cmp nat_cmp q e.0.now)) e.1 _ parts.0 (none_twice es parts.1 q)

absent : (q : List ℕ) (x : Bor (List ℕ)) (es : List Count) → is_gt (slice_cmp nat_cmp q x.now) ≡ false → AllByRecursion (λ y. key_cmp x y ≡ Less) (keys_of es) → found_at q es ≡ None
absent q x [] g h = refl
absent q x (e ∷ es) g h = rw (below _ q x.now e.0.now refl g h.0) (absent q x es g h.1)

-- where the first name stands twice
not_less : (e : Count) (es : List Count) (q : List ℕ) (o : Ordering) → AllByRecursion (λ y. key_cmp e.0 y ≡ Less) (keys_of es) → slice_cmp nat_cmp q e.0.now ≡ o → is_double (e ∷ es) q ≡ true → is_lt o ≡ false
not_less e es q Less h c t =
    let gone : is_double (e ∷ es) q ≡ false = rw (c, absent q e.0 es (ap is_gt c) h) refl in
    absurd (true≢false (sym t ∙ gone))
not_less e es q Equal h c t = refl
not_less e es q Greater h c t = refl

first_is_least : (e : Count) (es : List Count) → nat_le 2 e.1 ≡ true → AllByRecursion (λ y. key_cmp e.0 y ≡ Less) (keys_of es) → IsLeast (is_double (e ∷ es)) e.0.now
first_is_least e es n h = (rw (itself e.0.now) n, λ q t. not_less e es q (slice_cmp nat_cmp q e.0.now) h refl t)

-- where it doesn't
key_more : (e : Count) (es : List Count) (k : List ℕ) (o : Ordering) → AllByRecursion (λ y. key_cmp e.0 y ≡ Less) (keys_of es) → slice_cmp nat_cmp k e.0.now ≡ o → is_double es k ≡ true → is_double (e ∷ es) k ≡ true
key_more e es k Less h c t = rw c t
key_more e es k Equal h c t =
    let gone : is_double es k ≡ false = rw (absent k e.0 es (ap is_gt c) h) refl in
    absurd (true≢false (sym t ∙ gone))
key_more e es k Greater h c t = rw c t

other_more : (b : Bool) (n : ℕ) (rest : Option ℕ) → nat_le 2 n ≡ false → nat_le 2 (unwrap_or (cond b (Some n) rest) 0) ≡ true → nat_le 2 (unwrap_or rest 0) ≡ true
other_more true n rest f t = absurd (true≢false (sym t ∙ f))
other_more false n rest f t = t

later_is_least : (e : Count) (es : List Count) (k : List ℕ) → nat_le 2 e.1 ≡ false → AllByRecursion (λ y. key_cmp e.0 y ≡ Less) (keys_of es) → IsLeast (is_double es) k → IsLeast (is_double (e ∷ es)) k
later_is_least e es k n h least = (
  key_more e es k (slice_cmp nat_cmp k e.0.now) h refl least.0,
  λ q t. least.1 q (other_more (is_eq (slice_cmp nat_cmp q e.0.now)) e.1 _ n t),
)

found_step : (e : Count) (es : List Count) (k : List ℕ) (b : Bool) → nat_le 2 e.1 ≡ b → AllByRecursion (λ y. key_cmp e.0 y ≡ Less) (keys_of es) → (first_twice es ≡ Some k → IsLeast (is_double es) k)
    → cond b (Some e.0.now) (first_twice es) ≡ Some k → IsLeast (is_double (e ∷ es)) k
found_step e es k true n h more f = subst (λ (t : List ℕ). IsLeast (is_double (e ∷ es)) t) (ap (λ (o : Option (List ℕ)). unwrap_or o []) f) (first_is_least e es n h)
found_step e es k false n h more f = later_is_least e es k n h (more f)

pub found_twice : (es : List Count) (k : List ℕ) → IsStrictlySortedBy key_cmp (keys_of es) → first_twice es ≡ Some k → IsLeast (is_double es) k
unfolding IsStrictlySortedBy
found_twice [] k h f = absurd (true≢false (sym (ap is_some f)))
found_twice (e ∷ es) k h f = found_step e es k (nat_le 2 e.1) refl h.0 (λ g. found_twice es k h.1 g) f

pub least_alike : (f g : List ℕ → Bool) (k : List ℕ) → ((q : List ℕ) → f q ≡ g q) → IsLeast f k → IsLeast g k
least_alike f g k same least = (sym (same k) ∙ least.0, λ q t. least.1 q (same q ∙ t))

pub none_alike : (f g : List ℕ → Bool) → ((q : List ℕ) → f q ≡ g q) → NonePasses f → NonePasses g
none_alike f g same none q = sym (same q) ∙ none q

pub match_alike : (f g : List ℕ → Bool) (o : Option (List ℕ)) → ((q : List ℕ) → f q ≡ g q) → MatchOption o (NonePasses f) (IsLeast f) → MatchOption o (NonePasses g) (IsLeast g)
match_alike f g None same h = none_alike f g same h
match_alike f g (Some k) same h = least_alike f g k same h

itself_eq : (x : List ℕ) → bytes_eq x x ≡ true
itself_eq x = (bytes_eq-Decides x x).1 refl

other_way : (x y : List ℕ) → bytes_eq x y ≡ false → bytes_eq y x ≡ false
other_way x y h = false_from_ne_true (bytes_eq y x) (λ e. true≢false (sym ((bytes_eq-Decides x y).1 (sym ((bytes_eq-Decides y x).0 e))) ∙ h))

-- one more name, where f counts those before it, and g counts it once more
pub next_count : (f g : List ℕ → ℕ) (names : List (List ℕ)) (i : ℕ) (name : List ℕ) → i < length names → name ≡ get_or names i name
    → ((q : List ℕ) → f q ≡ count_by (λ n. bytes_eq q n) (take i names)) → ((q : List ℕ) → g q ≡ cond (bytes_eq name q) (f name + 1) (f q))
    → (q : List ℕ) → g q ≡ count_by (λ n. bytes_eq q n) (take (i + 1) names)
next_count f g names i name h is before step q =
    elim (cases_Bool (bytes_eq name q)) [
      | inl same ↦ subst (λ (t : List ℕ). g t ≡ count_by (λ n. bytes_eq t n) (take (i + 1) names)) ((bytes_eq-Decides name q).0 same)
          (step name ∙ rw (itself_eq name) (ap (λ n. n + 1) (before name) ∙ sym (count_by_more_yes (λ n. bytes_eq name n) names i name h (subst (λ (t : List ℕ). bytes_eq name t ≡ true) is (itself_eq name)))))
      | inr other ↦ step q ∙ rw other (before q ∙ sym (count_by_more_no (λ n. bytes_eq q n) names i name h (subst (λ (t : List ℕ). bytes_eq q t ≡ false) is (other_way name q other))))
    ]

chosen : (b : Bool) (n : ℕ) (o : Option ℕ) → unwrap_or (cond b (Some n) o) 0 ≡ cond b n (unwrap_or o 0)
chosen true n o = refl
chosen false n o = refl

-- what a count that is put in place leaves
pub put_count : (name : List ℕ) (old new : BTreeMap (Bor (List ℕ)) ℕ) (n : ℕ) → UpdatesBy key_cmp (λ k. slice_cmp nat_cmp name k.now) old new (Some n) → (q : List ℕ) → count_in new q ≡ cond (bytes_eq name q) n (count_in old q)
put_count name old new n updates q = ap (λ (o : Option ℕ). unwrap_or o 0) (btree_map_updates_str name old new (Some n) updates q) ∙ chosen (bytes_eq name q) n _
