-- A byte is found to bear a label just where it does.
use Rattle.std.proofs.Common.{◌≡◌, ◌||◌, arith, ℕ, zero, suc, ◌<◌, Bool, true, false, List, [], ◌∷◌, length, get_or, refl, sym, ap, ◌∙◌, subst, Contains}
use Rattle.std.specs.declared.cmp.Ordering.{Ordering}
use Rattle.std.specs.declared.cmp.Ordering.TheVariants.{Less, Equal, Greater}
use Rattle.std.specs.Ordering.{is_eq}
use Rattle.std.specs.Cmp.{tied_itself}
use Rattle.y2k_base.specs.declared.place.BytePlace.{BytePlace}
use Rattle.year_labels.specs.declared.label.Fact.{Fact}
use Rattle.year_labels.specs.declared.label.Label.{Label}
use Rattle.year_labels.specs.Facts.{fact_of}
use Rattle.year_labels.specs.Order.{fact_cmp}
use Rattle.year_labels.proofs.Total.{fact_total, fact_exact}
use Rattle.mode_links.specs.Bridges.{bears}

tied : (r : Ordering) → is_eq r ≡ true → r ≡ Equal
tied Less e = absurd (let f : false ≡ true = e in cc)
tied Equal e = refl
tied Greater e = absurd (let f : false ≡ true = e in cc)

module _ (place : BytePlace) (label : Label) where
  later : (f : Fact) (facts : List Fact) → Contains facts (fact_of place label) → Contains (f ∷ facts) (fact_of place label)
  later f facts there = (suc there.0, omega (arith, there.1), there.2)

  pub bears_there : (facts : List Fact) → bears facts place label ≡ true → Contains facts (fact_of place label)
  bears_there [] e = absurd (let f : false ≡ true = e in cc)
  bears_there (f ∷ facts) e =
      elim (is_eq (fact_cmp f (fact_of place label))) as (λ (b : Bool). is_eq (fact_cmp f (fact_of place label)) ≡ b → (b || bears facts place label) ≡ true → Contains (f ∷ facts) (fact_of place label)) [
        | true ↦ λ here _. (0, omega arith, fact_exact f (fact_of place label) (tied (fact_cmp f (fact_of place label)) here))
        | false ↦ λ _ rest. later f facts (bears_there facts rest)
      ] refl e

  or_true : (b : Bool) → (b || true) ≡ true
  or_true true = refl
  or_true false = refl

  found_at : (facts : List Fact) (i : ℕ) → i < length facts → get_or facts i (fact_of place label) ≡ fact_of place label → bears facts place label ≡ true
  found_at [] i low is = absurd (omega (arith, low))
  found_at (f ∷ facts) zero low is =
      let here : is_eq (fact_cmp f (fact_of place label)) ≡ true =
      subst (λ (g : Fact). is_eq (fact_cmp g (fact_of place label)) ≡ true) (sym is) (ap is_eq (tied_itself fact_total (fact_of place label))) in
      ap (λ (b : Bool). b || bears facts place label) here
  found_at (f ∷ facts) (suc i) low is =
      ap (λ (b : Bool). is_eq (fact_cmp f (fact_of place label)) || b) (found_at facts i (omega (arith, low)) is) ∙ or_true (is_eq (fact_cmp f (fact_of place label)))

  pub there_bears : (facts : List Fact) → Contains facts (fact_of place label) → bears facts place label ≡ true
  there_bears facts there = found_at facts there.0 there.1 there.2

  -- a test that is true just where the fact is there is this one
  pub bears_is : (facts : List Fact) (b : Bool) → (b ≡ true → Contains facts (fact_of place label)) → (Contains facts (fact_of place label) → b ≡ true) → b ≡ bears facts place label
  bears_is facts true there back = sym (there_bears facts (there refl))
  bears_is facts false there back =
      elim (bears facts place label) as (λ (b : Bool). bears facts place label ≡ b → false ≡ b) [
        | true ↦ λ e. back (bears_there facts e)
        | false ↦ λ _. refl
      ] refl
