-- A name more in an index of names.
use Rattle.std.proofs.Common.{◌≡◌, ◌||◌, ℕ, Bool, true, false, List, [], ◌∷◌, refl, sym, ap, ◌∙◌, subst}
use Rattle.std.specs.declared.cmp.Ordering.{Ordering}
use Rattle.std.specs.declared.cmp.Ordering.TheVariants.{Less, Equal, Greater}
use Rattle.std.specs.Ordering.{match_ordering, nat_cmp, is_eq}
use Rattle.std.specs.Cmp.Lexicographic.{slice_cmp}
use Rattle.std.specs.List.{list_any}
use Rattle.std.specs.BTreeSet.{insert_key}
use Rattle.std.proofs.lemmas.Map.Text.{is_eq-slice_cmp}
use Rattle.std.proofs.lemmas.Slice.Eq.{bytes_eq-Decides}

again : (b c : Bool) → (b || c) ≡ (b || (b || c))
again true c = refl
again false c = refl

either_again : (a b c : Bool) → a ≡ b → (b || c) ≡ (a || (b || c))
either_again a b c e = subst (λ (x : Bool). (b || c) ≡ (x || (b || c))) (sym e) (again b c)

other_way : (a b c : Bool) → (b || (a || c)) ≡ (a || (b || c))
other_way true true c = refl
other_way true false c = refl
other_way false true c = refl
other_way false false c = refl

module _ {K : Type 0} (cmp : K → K → Ordering) (test : K → Bool) (alike : (x y : K) → cmp x y ≡ Equal → test x ≡ test y) where
  pub any-insert : (ks : List K) (k : K) → list_any test (insert_key cmp ks k) ≡ (test k || list_any test ks)
  any-insert [] k = refl
  any-insert (x ∷ xs) k =
      elim (cmp k x) as (λ (o : Ordering). cmp k x ≡ o → list_any test (match_ordering o (k ∷ x ∷ xs) (x ∷ xs) (x ∷ insert_key cmp xs k)) ≡ (test k || (test x || list_any test xs))) [
        | Less ↦ λ e. refl
        | Equal ↦ λ e. either_again (test k) (test x) (list_any test xs) (alike k x e)
        | Greater ↦ λ e. ap (λ (b : Bool). test x || b) (any-insert xs k) ∙ other_way (test k) (test x) (list_any test xs)
      ] refl

equal_bytes : (xs ys : List ℕ) → slice_cmp nat_cmp xs ys ≡ Equal → xs ≡ ys
equal_bytes xs ys h = (bytes_eq-Decides xs ys).0 (sym (is_eq-slice_cmp xs ys) ∙ ap is_eq h)

pub is_alike : (name xs ys : List ℕ) → slice_cmp nat_cmp xs ys ≡ Equal → is_eq (slice_cmp nat_cmp name xs) ≡ is_eq (slice_cmp nat_cmp name ys)
is_alike name xs ys h = ap (λ (zs : List ℕ). is_eq (slice_cmp nat_cmp name zs)) (equal_bytes xs ys h)
