-- Cases of tests and of steps that may fail.
use Rattle.std.proofs.Common.{◌≡◌, ℕ, Bool, true, false, ◌⊎◌, inl, inr, Option, Some, None, refl, ap, sym, subst, ◌∙◌, if◌then◌else◌}
use Rattle.proc_reader.specs.Reading.{and_then, word_then}

pub record Part {A S B : Type 0} (r : Option (A × S)) (f : A → S → Option B) (y : B) : Type 0 where
  pub value : A
  pub end : S
  pub read : r ≡ Some (value, end)
  pub rest : f value end ≡ Some y

pub part_of : {A S B : Type 0} (r : Option (A × S)) (f : A → S → Option B) (y : B) → and_then r f ≡ Some y → Part r f y
part_of None f y h = cc
part_of (Some p) f y h = record { value = p.0; end = p.1; read = refl; rest = h }

pub record WordPart {B : Type 0} (r : Option ℕ) (f : ℕ → Option B) (y : B) : Type 0 where
  pub end : ℕ
  pub read : r ≡ Some end
  pub rest : f end ≡ Some y

pub word_of : {B : Type 0} (r : Option ℕ) (f : ℕ → Option B) (y : B) → word_then r f ≡ Some y → WordPart r f y
word_of None f y h = cc
word_of (Some i) f y h = record { end = i; read = refl; rest = h }

pub if_cases : {A : Type 0} (b : Bool) (x y z : A) → (if b then x else y) ≡ z → ((b ≡ true) × (x ≡ z)) ⊎ ((b ≡ false) × (y ≡ z))
if_cases true x y z h = inl (refl, h)
if_cases false x y z h = inr (refl, h)

pub some_same : {A : Type 0} (x y : A) → Some x ≡ Some y → x ≡ y
some_same x y h = cc

pub both_same : {A S : Type 0} (x y : A) (i j : S) → ◌≡◌ {A = Option (A × S)} (Some (x, i)) (Some (y, j)) → (x ≡ y) × (i ≡ j)
both_same {A = A} {S = S} x y i j h = let e : ◌≡◌ {A = A × S} (x, i) (y, j) = cc in (ap (λ p. p.0) e, ap (λ p. p.1) e)

pub never : {A : Type 0} {x : A} → None ≡ Some x → ⊥
never h = cc

-- what is read and where it ends, as other names of them
pub moved_to : {A : Type 0} (P : ℕ → ℕ → A → Type 0) (i n j : ℕ) (x y : A) → P i n x → ◌≡◌ {A = Option (A × ℕ)} (Some (x, n)) (Some (y, j)) → P i j y
moved_to {A = A} P i n j x y w h =
    let same = both_same x y n j h in
    subst (λ (z : A). P i j z) same.0 (subst (λ (m : ℕ). P i m x) same.1 w)
