-- What one set has and another lacks.
use Rattle.std.proofs.Common.{◌≡◌, ◌↔◌, ◌⊎◌, inl, inr, Bool, true, false, List, [], ◌∷◌, refl, sym, ap, ◌∙◌, subst, arith, Contains}
use Rattle.std.specs.Prelude.{not, if◌then◌else◌}
use Rattle.std.specs.List.{filter}
use Rattle.std.specs.Set.{is_member}
use Rattle.std.specs.Cmp.{eq_by_cmp_equiv}
use Rattle.std.specs.Ordering.{eq_by_cmp}
use Rattle.std.proofs.lemmas.List.Kept.{IsStrictlySortedBy-filter}
use Rattle.std.proofs.lemmas.List.Elements.{Contains-append_left, Contains-append_right, Contains-append_cases, Contains-push, Contains-push_cases}
use Rattle.std.proofs.lemmas.Map.Views.{Contains-from_any, list_any-from_Contains, tells_apart}
use Rattle.label_update.specs.Laws.{named_exact, named_total}
use Rattle.label_update.specs.Live.{IsWithout}
use Rattle.label_update.specs.Named.{IsAscending, named_cmp}
use Rattle.label_update.specs.declared.named.NamedFact.{NamedFact}

no_truth : true ≡ false → ⊥
no_truth e = let f : true ≡ false = e in cc

module _ {X : Type 0} (p : X → Bool) where
  first : (x : X) (xs : List X) → Contains (x ∷ xs) x
  first x xs = Contains-append_left (x ∷ []) xs x (Contains-push [] x)

  behind : (x : X) (xs : List X) (y : X) → Contains xs y → Contains (x ∷ xs) y
  behind x xs y h = Contains-append_right (x ∷ []) xs y h

  cases : (x : X) (xs : List X) (y : X) → Contains (x ∷ xs) y → (x ≡ y) ⊎ Contains xs y
  cases x xs y h = elim (Contains-append_cases (x ∷ []) xs y h) [
    | inl here ↦ elim (Contains-push_cases [] x y here) [ inl none ↦ absurd (omega (arith, none.1)) | inr is ↦ inl is ]
    | inr rest ↦ inr rest
  ]

  pub passes : (xs : List X) (y : X) → Contains (filter p xs) y → Contains xs y × (p y ≡ true)
  passes [] y h = absurd (omega (arith, h.1))
  passes (x ∷ xs) y given =
      let more : Contains (filter p xs) y → Contains (x ∷ xs) y × (p y ≡ true) = λ h. let r = passes xs y h in (behind x xs y r.0, r.1) in
      elim (p x) as (λ (b : Bool). p x ≡ b → Contains (if b then x ∷ filter p xs else filter p xs) y → Contains (x ∷ xs) y × (p y ≡ true)) [
        | true ↦ λ e h. elim (cases x (filter p xs) y h) [
          | inl is ↦ (subst (λ (z : X). Contains (x ∷ xs) z) is (first x xs), subst (λ (z : X). p z ≡ true) is e)
          | inr rest ↦ more rest
        ]
        | false ↦ λ e h. more h
      ] refl given

  pub stays : (xs : List X) (y : X) → Contains xs y → p y ≡ true → Contains (filter p xs) y
  stays [] y h e = absurd (omega (arith, h.1))
  stays (x ∷ xs) y given passing =
      elim (p x) as (λ (b : Bool). p x ≡ b → Contains (if b then x ∷ filter p xs else filter p xs) y) [
        | true ↦ λ e. elim (cases x xs y given) [
          | inl is ↦ subst (λ (z : X). Contains (x ∷ filter p xs) z) is (first x (filter p xs))
          | inr rest ↦ behind x (filter p xs) y (stays xs y rest passing)
        ]
        | false ↦ λ e. elim (cases x xs y given) [
          | inl is ↦ absurd (no_truth (sym passing ∙ ap p (sym is) ∙ e))
          | inr rest ↦ stays xs y rest passing
        ]
      ] refl

lacks : (others : List NamedFact) (f : NamedFact) (b : Bool) → is_member (eq_by_cmp named_cmp) others f ≡ b → (not b ≡ true) ↔ (Contains others f → ⊥)
lacks others f true e = (λ no. absurd (no_truth (sym no)), λ out. absurd (out (Contains-from_any (tells_apart named_exact) f others e)))
lacks others f false e = (λ _. λ there. no_truth (sym (list_any-from_Contains (eq_by_cmp_equiv named_total) f others there) ∙ e), λ _. refl)

pub without_all : (facts others kept : List NamedFact) → IsAscending facts → kept ≡ filter (λ k. not (is_member (eq_by_cmp named_cmp) others k)) facts → IsWithout facts others kept
without_all facts others kept sorted is =
    let p : NamedFact → Bool = λ k. not (is_member (eq_by_cmp named_cmp) others k) in
    subst (IsWithout facts others) (sym is) (record {
      ordered = IsStrictlySortedBy-filter named_cmp p facts sorted;
      same = λ f. let out = lacks others f (is_member (eq_by_cmp named_cmp) others f) refl in (
        λ h. let r = passes p facts f h in (r.0, out.0 r.1),
        λ h. stays p facts f h.0 (out.1 h.1),
      );
    })
