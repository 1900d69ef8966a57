-- Loops that add what follows by one of several after the other.
use Rattle.std.proofs.Common.{◌≡◌, ◌⊎◌, inl, inr, ℕ, ◌+◌, ◌<◌, ◌≤◌, List, [], ◌∷◌, ◌++◌, length, get_or, sym, ap, ◌∙◌, subst, arith, Contains}
use Rattle.std.proofs.lemmas.Bool.{cases_lt}
use Rattle.std.proofs.lemmas.List.{get_or_default}
use Rattle.std.proofs.lemmas.List.Elements.{Contains-get_or}
use Rattle.year_labels.specs.declared.label.Fact.{Fact}
use Rattle.label_spread.specs.Steps.{Extends, Adds, Starts, Reacts, IsPartOf}
use Rattle.label_spread.proofs.Growth.{Extends-refl, Extends-weaker, Extends-trans, Extends-contains, IsMonotone}

module _ {X : Type 0} (P : X → List Fact → Fact → Type 0) (xs : List X) where
  -- it follows by one of them
  abbrev pub ByOneOf : List Fact → Fact → Type 0
  ByOneOf known f = (x : X) × Contains xs x × P x known f

  -- what follows by the first i of them is there
  pub record AddsOver (old now : List Fact) (i : ℕ) : Type 0 where
    pub extends : Extends ByOneOf old now
    pub all : (k : ℕ) (d : X) → k < i → (f : Fact) → P (get_or xs k d) old f → Contains now f

  pub AddsOver-none : (old : List Fact) → AddsOver old old 0
  AddsOver-none old = record { extends = Extends-refl ByOneOf old; all = λ k d low f h. absurd (omega arith) }

  pub AddsOver-more : (old now next : List Fact) (i : ℕ) (x : X) → ((y : X) → IsMonotone (P y)) → i < length xs → x ≡ get_or xs i x → AddsOver old now i → Adds (P x) now next → AddsOver old next (i + 1)
  AddsOver-more old now next i x grows lt is a b = record {
    extends = Extends-trans ByOneOf old now next a.extends
        (Extends-weaker (P x) ByOneOf now next (λ ys f known h. (x, subst (λ (y : X). Contains xs y) (sym is) (Contains-get_or xs i x lt), h)) b.extends);
    all = λ k d low f h. elim (cases_lt k i) [
      | inl before ↦ Extends-contains (P x) now next f b.extends (a.all k d before f h)
      | inr after ↦
          let here : k ≡ i = omega arith in
          let same : get_or xs k d ≡ x = ap (λ n. get_or xs n d) here ∙ get_or_default xs i d x lt ∙ sym is in
          b.all f (grows x old now f (λ g at. Extends-contains ByOneOf old now g a.extends at) (subst (λ (y : X). P y old f) same h))
    ];
  }

  pub AddsOver-all : (old now : List Fact) (i : ℕ) → length xs ≤ i → AddsOver old now i → Adds ByOneOf old now
  AddsOver-all old now i le a = record {
    extends = a.extends;
    all = λ f h. a.all h.1.0 h.0 (omega (arith, h.1.1)) f (subst (λ (y : X). P y old f) (sym h.1.2) h.2);
  }

  -- what follows from nothing by the first i of them is there
  pub record StartsOver (old now : List Fact) (i : ℕ) : Type 0 where
    pub extends : Extends ByOneOf old now
    pub all : (k : ℕ) (d : X) → k < i → (f : Fact) → P (get_or xs k d) [] f → Contains now f

  pub StartsOver-none : (old : List Fact) → StartsOver old old 0
  StartsOver-none old = record { extends = Extends-refl ByOneOf old; all = λ k d low f h. absurd (omega arith) }

  -- a step by the one at i is a step by one of them
  step_by : (now next : List Fact) (i : ℕ) (x : X) → i < length xs → x ≡ get_or xs i x → Extends (P x) now next → Extends ByOneOf now next
  step_by now next i x lt is e =
      Extends-weaker (P x) ByOneOf now next (λ ys f known h. (x, subst (λ (y : X). Contains xs y) (sym is) (Contains-get_or xs i x lt), h)) e

  pub StartsOver-more : (old now next : List Fact) (i : ℕ) (x : X) → i < length xs → x ≡ get_or xs i x → StartsOver old now i → Starts (P x) now next → StartsOver old next (i + 1)
  StartsOver-more old now next i x lt is a b = record {
    extends = Extends-trans ByOneOf old now next a.extends (step_by now next i x lt is b.extends);
    all = λ k d low f h. elim (cases_lt k i) [
      | inl before ↦ Extends-contains (P x) now next f b.extends (a.all k d before f h)
      | inr after ↦
          let here : k ≡ i = omega arith in
          let same : get_or xs k d ≡ x = ap (λ n. get_or xs n d) here ∙ get_or_default xs i d x lt ∙ sym is in
          b.all f (subst (λ (y : X). P y [] f) same h)
    ];
  }

  pub StartsOver-all : (old now : List Fact) (i : ℕ) → length xs ≤ i → StartsOver old now i → Starts ByOneOf old now
  StartsOver-all old now i le a = record {
    extends = a.extends;
    all = λ f h. a.all h.1.0 h.0 (omega (arith, h.1.1)) f (subst (λ (y : X). P y [] f) (sym h.1.2) h.2);
  }

  -- what follows with the fact by the first i of them, and did not before, is there
  pub record ReactsOver (fact : Fact) (old now : List Fact) (i : ℕ) : Type 0 where
    pub extends : Extends ByOneOf old now
    pub all : (k : ℕ) (d : X) → k < i → (front : List Fact) (f : Fact) → IsPartOf front old → P (get_or xs k d) (front ++ fact ∷ []) f → P (get_or xs k d) front f ⊎ Contains now f

  pub ReactsOver-none : (fact : Fact) (old : List Fact) → ReactsOver fact old old 0
  ReactsOver-none fact old = record { extends = Extends-refl ByOneOf old; all = λ k d low front f part h. absurd (omega arith) }

  pub ReactsOver-there : (fact : Fact) (old now : List Fact) (i : ℕ) → Contains old fact → ReactsOver fact old now i → Contains now fact
  ReactsOver-there fact old now i there a = Extends-contains ByOneOf old now fact a.extends there

  pub ReactsOver-more : (fact : Fact) (old now next : List Fact) (i : ℕ) (x : X) → i < length xs → x ≡ get_or xs i x → ReactsOver fact old now i → Reacts (P x) fact now next → ReactsOver fact old next (i + 1)
  ReactsOver-more fact old now next i x lt is a b = record {
    extends = Extends-trans ByOneOf old now next a.extends (step_by now next i x lt is b.extends);
    all = λ k d low front f part h. elim (cases_lt k i) [
      | inl before ↦ elim (a.all k d before front f part h) [
        | inl earlier ↦ inl earlier
        | inr there ↦ inr (Extends-contains (P x) now next f b.extends there)
      ]
      | inr after ↦
          let here : k ≡ i = omega arith in
          let same : get_or xs k d ≡ x = ap (λ n. get_or xs n d) here ∙ get_or_default xs i d x lt ∙ sym is in
          let wider : IsPartOf front now = λ g at. Extends-contains ByOneOf old now g a.extends (part g at) in
          elim (b.all front f wider (subst (λ (y : X). P y (front ++ fact ∷ []) f) same h)) [
            | inl earlier ↦ inl (subst (λ (y : X). P y front f) (sym same) earlier)
            | inr there ↦ inr there
          ]
    ];
  }

  pub ReactsOver-all : (fact : Fact) (old now : List Fact) (i : ℕ) → length xs ≤ i → ReactsOver fact old now i → Reacts ByOneOf fact old now
  ReactsOver-all fact old now i le a = record {
    extends = a.extends;
    all = λ front f part h. elim (a.all h.1.0 h.0 (omega (arith, h.1.1)) front f part (subst (λ (y : X). P y (front ++ fact ∷ []) f) (sym h.1.2) h.2)) [
      | inl earlier ↦ inl (h.0, h.1, subst (λ (y : X). P y front f) h.1.2 earlier)
      | inr there ↦ inr there
    ];
  }

-- a loop over numbers, as powers or indexes
module _ (P : ℕ → List Fact → Fact → Type 0) where
  abbrev pub ByOneNumber : List Fact → Fact → Type 0
  ByOneNumber known f = (k : ℕ) × P k known f

  -- what follows by a number below n is there
  pub record AddsBelow (old now : List Fact) (n : ℕ) : Type 0 where
    pub extends : Extends ByOneNumber old now
    pub all : (k : ℕ) → k < n → (f : Fact) → P k old f → Contains now f

  pub AddsBelow-none : (old : List Fact) → AddsBelow old old 0
  AddsBelow-none old = record { extends = Extends-refl ByOneNumber old; all = λ k low f h. absurd (omega arith) }

  pub AddsBelow-more : (old now next : List Fact) (n : ℕ) → IsMonotone (P n) → AddsBelow old now n → Adds (P n) now next → AddsBelow old next (n + 1)
  AddsBelow-more old now next n grows a b = record {
    extends = Extends-trans ByOneNumber old now next a.extends (Extends-weaker (P n) ByOneNumber now next (λ ys f known h. (n, h)) b.extends);
    all = λ k low f h. elim (cases_lt k n) [
      | inl before ↦ Extends-contains (P n) now next f b.extends (a.all k before f h)
      | inr after ↦
          let here : k ≡ n = omega arith in
          b.all f (grows old now f (λ g at. Extends-contains ByOneNumber old now g a.extends at) (subst (λ (m : ℕ). P m old f) here h))
    ];
  }

  pub AddsBelow-all : (Q : List Fact → Fact → Type 0) (old now : List Fact) (n : ℕ) → ((k : ℕ) (ys : List Fact) (f : Fact) → P k ys f → Q ys f) → ((f : Fact) → Q old f → (k : ℕ) × (k < n) × P k old f) → AddsBelow old now n → Adds Q old now
  AddsBelow-all Q old now n there back a = record {
    extends = Extends-weaker ByOneNumber Q old now (λ ys f known h. there h.0 ys f h.1) a.extends;
    all = λ f h. let w : (k : ℕ) × (k < n) × P k old f = back f h in a.all w.0 w.1 f w.2;
  }
