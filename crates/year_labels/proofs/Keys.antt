-- Keys put into a sorted list.
use Rattle.std.proofs.Common.{◌≡◌, ◌⊎◌, inl, inr, arith, ℕ, ◌+◌, ◌<◌, List, [], ◌∷◌, ◌++◌, take, length, get_or, refl, sym, ap, ◌∙◌, subst, Contains}
use Rattle.std.specs.declared.cmp.Ordering.{Ordering}
use Rattle.std.specs.declared.cmp.Ordering.TheVariants.{Less, Equal, Greater}
use Rattle.std.specs.Ordering.{match_ordering}
use Rattle.std.specs.BTreeSet.{insert_key}
use Rattle.std.proofs.lemmas.List.{take_more}
use Rattle.std.proofs.lemmas.List.Elements.{Contains-append_left, Contains-append_right, Contains-append_cases, Contains-push, Contains-push_cases}
use Rattle.year_labels.specs.declared.label.Fact.{Fact}
use Rattle.year_labels.specs.Order.{fact_cmp}
use Rattle.year_labels.proofs.Total.{fact_exact}

module _ {K : Type 0} (cmp : K → K → Ordering) (exact : (x y : K) → cmp x y ≡ Equal → x ≡ y) where
  front : (x : K) (xs : List K) (q : K) → Contains xs q → Contains (x ∷ xs) q
  front x xs q h = Contains-append_right (x ∷ []) xs q h

  head : (x : K) (xs : List K) → Contains (x ∷ xs) x
  head x xs = Contains-append_left (x ∷ []) xs x (Contains-push [] x)

  cases : (x : K) (xs : List K) (q : K) → Contains (x ∷ xs) q → (x ≡ q) ⊎ Contains xs q
  cases x xs q h = elim (Contains-append_cases (x ∷ []) xs q h) [
    | inl first ↦ elim (Contains-push_cases [] x q first) [ inl none ↦ absurd (omega (arith, none.1)) | inr is ↦ inl is ]
    | inr rest ↦ inr rest
  ]

  pub insert_key-new : (ks : List K) (k : K) → Contains (insert_key cmp ks k) k
  insert_key-new [] k = head k []
  insert_key-new (x ∷ xs) k =
      elim (cmp k x) as (λ (o : Ordering). cmp k x ≡ o → Contains (match_ordering o (k ∷ x ∷ xs) (x ∷ xs) (x ∷ insert_key cmp xs k)) k) [
        | Less ↦ λ e. head k (x ∷ xs)
        | Equal ↦ λ e. subst (λ (y : K). Contains (x ∷ xs) y) (sym (exact k x e)) (head x xs)
        | Greater ↦ λ e. front x (insert_key cmp xs k) k (insert_key-new xs k)
      ] refl

  pub insert_key-old : (ks : List K) (k q : K) → Contains ks q → Contains (insert_key cmp ks k) q
  insert_key-old [] k q h = front k [] q h
  insert_key-old (x ∷ xs) k q h =
      elim (cmp k x) as (λ (o : Ordering). Contains (match_ordering o (k ∷ x ∷ xs) (x ∷ xs) (x ∷ insert_key cmp xs k)) q) [
        | Less ↦ front k (x ∷ xs) q h
        | Equal ↦ h
        | Greater ↦ elim (cases x xs q h) [
          | inl is ↦ subst (λ (y : K). Contains (x ∷ insert_key cmp xs k) y) is (head x (insert_key cmp xs k))
          | inr rest ↦ front x (insert_key cmp xs k) q (insert_key-old xs k q rest)
        ]
      ]

  pub insert_key-cases : (ks : List K) (k q : K) → Contains (insert_key cmp ks k) q → Contains ks q ⊎ (k ≡ q)
  insert_key-cases [] k q h = elim (cases k [] q h) [ inl is ↦ inr is | inr none ↦ inl none ]
  insert_key-cases (x ∷ xs) k q given =
      elim (cmp k x) as (λ (o : Ordering). Contains (match_ordering o (k ∷ x ∷ xs) (x ∷ xs) (x ∷ insert_key cmp xs k)) q → Contains (x ∷ xs) q ⊎ (k ≡ q)) [
        | Less ↦ λ h. elim (cases k (x ∷ xs) q h) [ inl is ↦ inr is | inr rest ↦ inl rest ]
        | Equal ↦ λ h. inl h
        | Greater ↦ λ h. elim (cases x (insert_key cmp xs k) q h) [
          | inl is ↦ inl (subst (λ (y : K). Contains (x ∷ xs) y) is (head x xs))
          | inr rest ↦ elim (insert_key-cases xs k q rest) [ inl old ↦ inl (front x xs q old) | inr is ↦ inr is ]
        ]
      ] given

-- the keys are the facts of the front
pub record AreKeysOf (keys facts : List Fact) : Type 0 where
  pub there : (f : Fact) → Contains facts f → Contains keys f
  pub only : (f : Fact) → Contains keys f → Contains facts f

pub AreKeysOf-more : (keys next facts : List Fact) (i : ℕ) (g : Fact) → i < length facts → g ≡ get_or facts i g → next ≡ insert_key fact_cmp keys g → AreKeysOf keys (take i facts) → AreKeysOf next (take (i + 1) facts)
AreKeysOf-more keys next facts i g lt is e a =
    let more : take (i + 1) facts ≡ take i facts ++ g ∷ [] = take_more facts i g lt ∙ ap (λ (x : Fact). take i facts ++ x ∷ []) (sym is) in
    record {
      there = λ f h. subst (λ (ks : List Fact). Contains ks f) (sym e)
          (elim (Contains-push_cases (take i facts) g f (subst (λ (xs : List Fact). Contains xs f) more h)) [
            | inl before ↦ insert_key-old fact_cmp fact_exact keys g f (a.there f before)
            | inr same ↦ subst (λ (x : Fact). Contains (insert_key fact_cmp keys g) x) same (insert_key-new fact_cmp fact_exact keys g)
          ]);
      only = λ f h. subst (λ (xs : List Fact). Contains xs f) (sym more)
          (elim (insert_key-cases fact_cmp fact_exact keys g f (subst (λ (ks : List Fact). Contains ks f) e h)) [
            | inl old ↦ Contains-append_left (take i facts) (g ∷ []) f (a.only f old)
            | inr same ↦ subst (λ (x : Fact). Contains (take i facts ++ g ∷ []) x) same (Contains-push (take i facts) g)
          ]);
    }
