-- Sets that are joined by one relation after the other.
use Rattle.std.proofs.Common.{◌≡◌, ◌⊎◌, ◌↔◌, inl, inr, ℕ, ◌+◌, ◌<◌, ◌≤◌, Bool, List, [], ◌∷◌, ◌++◌, length, take, get_or, refl, sym, ap, ◌∙◌, subst, arith, Contains}
use Rattle.std.proofs.lemmas.List.{take_more, take_all}
use Rattle.std.proofs.lemmas.List.Elements.{Contains-append_left, Contains-push, Contains-push_cases}
use Rattle.disjoint_sets.specs.Sets.{IsKept}
use Rattle.window_modes.specs.Work.{Joins}

abbrev IsConstant : (ℕ → ℕ → Type 0) → (ℕ → Bool) → Type 0
IsConstant R keep = (i j : ℕ) → R i j → keep i ≡ keep j

-- nothing is joined
pub Joins-none : (R : ℕ → ℕ → Type 0) (old : List ℕ) → ((i j : ℕ) → R i j → ⊥) → Joins R old old
Joins-none R old none = record {
  long = refl;
  joined = λ keep. (λ h. (h, λ i j r. absurd (none i j r)), λ h. h.0);
}

-- two numbers are joined
pub Joins-two : (first second : ℕ) (old new : List ℕ) → length new ≡ length old → ((keep : ℕ → Bool) → IsKept new keep ↔ (IsKept old keep × (keep first ≡ keep second))) → Joins (λ i j. (i ≡ first) × (j ≡ second)) old new
Joins-two first second old new long joined = record {
  long = long;
  joined = λ keep. (
    λ h. (((joined keep).0 h).0, λ i j r. ap keep r.0 ∙ ((joined keep).0 h).1 ∙ ap keep (sym r.1)),
    λ h. (joined keep).1 (h.0, h.1 first second (refl, refl)),
  );
}

-- the same pairs said in another way
pub Joins-alike : (R S : ℕ → ℕ → Type 0) (old new : List ℕ) → ((i j : ℕ) → R i j → S i j) → ((i j : ℕ) → S i j → R i j) → Joins R old new → Joins S old new
Joins-alike R S old new there back a = record {
  long = a.long;
  joined = λ keep. (
    λ h. (((a.joined keep).0 h).0, λ i j s. ((a.joined keep).0 h).1 i j (back i j s)),
    λ h. (a.joined keep).1 (h.0, λ i j r. h.1 i j (there i j r)),
  );
}

-- two numbers are joined under a condition that holds
pub joined_where : (p q first second : ℕ) (old new : List ℕ) → p ≡ q → length new ≡ length old → ((keep : ℕ → Bool) → IsKept new keep ↔ (IsKept old keep × (keep first ≡ keep second))) → Joins (λ i j. (p ≡ q) × (i ≡ first) × (j ≡ second)) old new
joined_where p q first second old new same long joined =
    Joins-alike (λ i j. (i ≡ first) × (j ≡ second)) (λ i j. (p ≡ q) × (i ≡ first) × (j ≡ second)) old new (λ i j h. (same, h.0, h.1)) (λ i j h. (h.1, h.2)) (Joins-two first second old new long joined)

pub Joins-both : (R S : ℕ → ℕ → Type 0) (old mid new : List ℕ) → Joins R old mid → Joins S mid new → Joins (λ i j. R i j ⊎ S i j) old new
Joins-both R S old mid new a b = record {
  long = b.long ∙ a.long;
  joined = λ keep. (
    λ h.
        let second : IsKept mid keep × IsConstant S keep = (b.joined keep).0 h in
        let first : IsKept old keep × IsConstant R keep = (a.joined keep).0 second.0 in
        (first.0, λ i j r. elim r [ inl one ↦ first.1 i j one | inr other ↦ second.1 i j other ]),
    λ h. (b.joined keep).1 ((a.joined keep).1 (h.0, λ i j r. h.1 i j (inl r)), λ i j s. h.1 i j (inr s)),
  );
}

module _ {X : Type 0} (P : X → ℕ → ℕ → Type 0) (xs : List X) where
  -- one of the first relates them
  abbrev pub ByOneUpTo : ℕ → ℕ → ℕ → Type 0
  ByOneUpTo count i j = (x : X) × Contains (take count xs) x × P x i j

  abbrev pub ByOne : ℕ → ℕ → Type 0
  ByOne i j = (x : X) × Contains xs x × P x i j

  pub over-none : (old : List ℕ) → Joins (ByOneUpTo 0) old old
  over-none old = Joins-none (ByOneUpTo 0) old (λ i j h. omega (arith, h.1.1))

  pub over-more : (old now next : List ℕ) (count : ℕ) (x : X) → count < length xs → x ≡ get_or xs count x → Joins (ByOneUpTo count) old now → Joins (P x) now next → Joins (ByOneUpTo (count + 1)) old next
  over-more old now next count x low is a b =
      let more : take (count + 1) xs ≡ take count xs ++ x ∷ [] = take_more xs count x low ∙ ap (λ (y : X). take count xs ++ y ∷ []) (sym is) in
      Joins-alike (λ i j. ByOneUpTo count i j ⊎ P x i j) (ByOneUpTo (count + 1)) old next
      (λ i j h. elim h [
        | inl before ↦ (before.0, subst (λ (ys : List X). Contains ys before.0) (sym more) (Contains-append_left (take count xs) (x ∷ []) before.0 before.1), before.2)
        | inr here ↦ (x, subst (λ (ys : List X). Contains ys x) (sym more) (Contains-push (take count xs) x), here)
      ])
      (λ i j h. elim (Contains-push_cases (take count xs) x h.0 (subst (λ (ys : List X). Contains ys h.0) more h.1)) [
        | inl before ↦ inl (h.0, before, h.2)
        | inr same ↦ inr (subst (λ (y : X). P y i j) (sym same) h.2)
      ])
      (Joins-both (ByOneUpTo count) (P x) old now next a b)

  pub over-all : (old now : List ℕ) (count : ℕ) → length xs ≤ count → Joins (ByOneUpTo count) old now → Joins ByOne old now
  over-all old now count all a =
      let whole : take count xs ≡ xs = take_all count xs all in
      Joins-alike (ByOneUpTo count) ByOne old now
      (λ i j h. (h.0, subst (λ (ys : List X). Contains ys h.0) whole h.1, h.2))
      (λ i j h. (h.0, subst (λ (ys : List X). Contains ys h.0) (sym whole) h.1, h.2)) a
