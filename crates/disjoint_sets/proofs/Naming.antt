-- The names of disjoint sets.
use Rattle.std.proofs.Common.{◌≡◌, ◌⊎◌, ◌↔◌, inl, inr, arith, ℕ, ◌+◌, ◌<◌, ◌≤◌, ◌==◌, Bool, true, List, [], ◌∷◌, ◌++◌, length, get_or, refl, sym, ap, ◌∙◌, subst, length-append, eq-eqb}
use Rattle.std.proofs.lemmas.Bool.{cases_lt, eqb-true}
use Rattle.std.proofs.lemmas.List.{get_or_append_left}
use Rattle.std.proofs.Math.Seq.{get_or-append_seam}
use Rattle.disjoint_sets.specs.Sets.{IsForest, IsKept, AreNamesOf, AreNames}

pub no_names : (parents : List ℕ) → AreNames parents 0 []
no_names parents = record {
  long = refl;
  low = λ k less. absurd (omega (arith, less));
  held = λ k keep less kept. absurd (omega (arith, less));
  kept = λ k less. absurd (omega (arith, less));
}

-- the name of the next number
abbrev pub IsNextName : List ℕ → List ℕ → ℕ → ℕ → Type 0
IsNextName parents names number name = ((get_or parents number 0 < number) × (name ≡ get_or names (get_or parents number 0) 0)) ⊎ ((get_or parents number 0 ≡ number) × (name ≡ number))

module _ (parents names : List ℕ) (number name : ℕ) (forest : IsForest parents) (within : number < length parents) (a : AreNames parents number names) where
  old_at : (k : ℕ) → k < number → get_or (names ++ name ∷ []) k 0 ≡ get_or names k 0
  old_at k less = let low : k < length names = omega (arith, less, a.long) in get_or_append_left names (name ∷ []) 0 k low

  new_at : get_or (names ++ name ∷ []) number 0 ≡ name
  new_at = ap (λ (n : ℕ). get_or (names ++ name ∷ []) n 0) (sym a.long) ∙ get_or-append_seam names name [] 0

  next_low : IsNextName parents names number name → name ≤ number
  next_low (inl h) = omega (arith, h.0, h.1, a.low (get_or parents number 0) h.0)
  next_low (inr h) = omega (arith, h.1)

  next_held : IsNextName parents names number name → (keep : ℕ → Bool) → IsKept parents keep → keep number ≡ keep name
  next_held (inl h) keep kept = kept number within ∙ a.held (get_or parents number 0) keep h.0 kept ∙ ap keep (sym h.1)
  next_held (inr h) keep kept = ap keep (sym h.1)

  next_kept : IsNextName parents names number name → get_or (names ++ name ∷ []) number 0 ≡ get_or (names ++ name ∷ []) (get_or parents number 0) 0
  next_kept (inl h) = new_at ∙ h.1 ∙ sym (old_at (get_or parents number 0) h.0)
  next_kept (inr h) = ap (λ (n : ℕ). get_or (names ++ name ∷ []) n 0) (sym h.0)

  old_kept : (k : ℕ) → k < number → get_or (names ++ name ∷ []) k 0 ≡ get_or (names ++ name ∷ []) (get_or parents k 0) 0
  old_kept k less =
      let low : get_or parents k 0 < number = omega (arith, forest k (omega (arith, less, within)), less) in
      old_at k less ∙ a.kept k less ∙ sym (old_at (get_or parents k 0) low)

  pub next_name : IsNextName parents names number name → AreNames parents (number + 1) (names ++ name ∷ [])
  next_name h = record {
    long = length-append names (name ∷ []) ∙ ap (λ (n : ℕ). n + 1) a.long;
    low = λ k less. elim (cases_lt k number) [
      | inl before ↦ omega (arith, old_at k before, a.low k before)
      | inr last ↦
          let is : k ≡ number = omega (arith, last, less) in
          subst (λ (n : ℕ). get_or (names ++ name ∷ []) n 0 ≤ n) (sym is) (omega (arith, new_at, next_low h))
    ];
    held = λ k keep less kept. elim (cases_lt k number) [
      | inl before ↦ a.held k keep before kept ∙ ap keep (sym (old_at k before))
      | inr last ↦
          let is : k ≡ number = omega (arith, last, less) in
          subst (λ (n : ℕ). keep n ≡ keep (get_or (names ++ name ∷ []) n 0)) (sym is) (next_held h keep kept ∙ ap keep (sym new_at))
    ];
    kept = λ k less. elim (cases_lt k number) [
      | inl before ↦ old_kept k before
      | inr last ↦
          let is : k ≡ number = omega (arith, last, less) in
          subst (λ (n : ℕ). get_or (names ++ name ∷ []) n 0 ≡ get_or (names ++ name ∷ []) (get_or parents n 0) 0) (sym is) (next_kept h)
    ];
  }

same_test : (x y z : ℕ) → x ≡ y → (x == z) ≡ (y == z)
same_test x y z e = ap (λ (n : ℕ). n == z) e

pub names_all : (parents names : List ℕ) → AreNames parents (length parents) names → IsForest parents → AreNamesOf parents names
names_all parents names a forest = record {
  long = a.long;
  within = λ k less. omega (arith, a.low k less, less);
  same = λ i j low high. (
    λ e keep kept. a.held i keep low kept ∙ ap keep e ∙ sym (a.held j keep high kept),
    λ together.
        let named : ℕ → Bool = λ k. get_or names k 0 == get_or names i 0 in
        let kept : IsKept parents named = λ k less. same_test (get_or names k 0) (get_or names (get_or parents k 0) 0) (get_or names i 0) (a.kept k less) in
        let is : named i ≡ true = eq-eqb (get_or names i 0) (get_or names i 0) refl in
        sym (eqb-true (get_or names j 0) (get_or names i 0) (sym (together named kept) ∙ is)),
  );
}

-- each number hangs on itself
pub own_more : (parents : List ℕ) (count : ℕ) → length parents ≡ count → ((k : ℕ) → k < count → get_or parents k 0 ≡ k) → (k : ℕ) → k < count + 1 → get_or (parents ++ count ∷ []) k 0 ≡ k
own_more parents count long own k less = elim (cases_lt k count) [
  | inl before ↦ let low : k < length parents = omega (arith, before, long) in get_or_append_left parents (count ∷ []) 0 k low ∙ own k before
  | inr last ↦
      let is : k ≡ length parents = omega (arith, last, less, long) in
      ap (λ (n : ℕ). get_or (parents ++ count ∷ []) n 0) is ∙ get_or-append_seam parents count [] 0 ∙ sym long ∙ sym is
]

pub hung_more : (old mid new : List ℕ) (keep : ℕ → Bool) → (IsKept mid keep ↔ IsKept old keep) → (IsKept new keep ↔ IsKept mid keep) → IsKept new keep ↔ IsKept old keep
hung_more old mid new keep first second = (λ h. first.0 (second.0 h), λ h. second.1 (first.1 h))

-- two sets are joined by their roots
pub joined_roots : (old mid late new : List ℕ) (keep : ℕ → Bool) (first second one other : ℕ) → (IsKept mid keep ↔ IsKept old keep) → (IsKept late keep ↔ IsKept mid keep) → (IsKept old keep → keep first ≡ keep one) → (IsKept mid keep → keep second ≡ keep other) → (IsKept new keep ↔ (IsKept late keep × (keep one ≡ keep other))) → IsKept new keep ↔ (IsKept old keep × (keep first ≡ keep second))
joined_roots old mid late new keep first second one other a b of_first of_second joined = (
  λ h.
      let there : IsKept late keep × (keep one ≡ keep other) = joined.0 h in
      let middle : IsKept mid keep = b.0 there.0 in
      let before : IsKept old keep = a.0 middle in
      (before, of_first before ∙ there.1 ∙ sym (of_second middle)),
  λ h.
      let middle : IsKept mid keep = a.1 h.0 in
      joined.1 (b.1 middle, sym (of_first h.0) ∙ h.1 ∙ of_second middle),
)

pub turned_roots : (late new : List ℕ) (keep : ℕ → Bool) (one other : ℕ) → (IsKept new keep ↔ (IsKept late keep × (keep other ≡ keep one))) → IsKept new keep ↔ (IsKept late keep × (keep one ≡ keep other))
turned_roots late new keep one other h = (λ p. ((h.0 p).0, sym (h.0 p).1), λ q. h.1 (q.0, sym q.1))
