-- Cases of the ways in which parts follow one another.
use Rattle.std.specs.Prelude.{Result, Ok, Err}
use Rattle.std.specs.Option.{option_map_or}
use Rattle.std.proofs.Common.{◌≡◌, ℕ, zero, suc, ◌+◌, Bool, true, false, Option, Some, None, refl, ap, sym, subst, ◌∙◌, arith, if◌then◌else◌}
use Rattle.cond_reader.specs.Reads.{Reader, chain, and_then}
use Rattle.cond_reader.specs.Grammar.{Many, stop as none_left, more as one_more}
use Rattle.program_reader.specs.EntryGrammar.{Clauses}
use Rattle.program_reader.specs.EntryGrammar.Clauses.{stop, more}
use Rattle.program_reader.specs.declared.fault.Refused.{Refused}
use Rattle.program_reader.specs.Programs.{so, so_at, each, if_there}

-- one of two
pub if_either : {X : Type 0} (b : Bool) (p q : X) (x : X) (G : Type 0) → (if b then p else q) ≡ x → (b ≡ true → p ≡ x → G) → (b ≡ false → q ≡ x → G) → G
if_either true p q x G h f g = f refl h
if_either false p q x G h f g = g refl h

-- what stands where a test fails
pub if_not : {X : Type 0} (b : Bool) (r : Option X) (x : X) → (if b then None else r) ≡ Some x → (b ≡ false) × (r ≡ Some x)
if_not true r x h = absurd (cc)
if_not false r x h = (refl, h)

-- Clauses that are read one by one.
module _ {D P : Type 0} (has : D → P → Bool) (add : D → P → D) (next : D → Reader P) (Clause : ℕ → ℕ → P → Type 0)
    (sound : (d : D) (i j : ℕ) (p : P) → next d i ≡ Some (p, j) → Clause i j p × (has d p ≡ false)) where
  abbrev run : ℕ → D → ℕ → D × ℕ
  run = chain next add

  run-zero : (d : D) (i : ℕ) → run 0 d i ≡ (d, i)
  unfolding chain
  run-zero d i = refl

  run-suc : (n : ℕ) (d : D) (i : ℕ) (r : Option (P × ℕ)) → next d i ≡ r → run (suc n) d i ≡ option_map_or (λ p. run n (add d p.0) p.1) r (d, i)
  unfolding chain
  run-suc n d i r e = ap (λ o. option_map_or (λ (p : P × ℕ). chain next add n (add d p.0) p.1) o (d, i)) e

  pub clauses-sound : (n : ℕ) (d : D) (i : ℕ) → Clauses has add Clause d i (run n d i).1 (run n d i).0
  clauses-sound zero d i = subst (λ (q : D × ℕ). Clauses has add Clause d i q.1 q.0) (sym (run-zero d i)) stop
  clauses-sound (suc n) d i =
      elim (next d i) as (λ (r : Option (P × ℕ)). next d i ≡ r → Clauses has add Clause d i (run (suc n) d i).1 (run (suc n) d i).0) [
        | None ↦ λ e. subst (λ (q : D × ℕ). Clauses has add Clause d i q.1 q.0) (sym (run-suc n d i None e)) stop
        | Some p ↦ λ e.
            let read = sound d i p.1 p.0 e in
            subst (λ (q : D × ℕ). Clauses has add Clause d i q.1 q.0) (sym (run-suc n d i (Some p) e)) (more read.0 read.1 (clauses-sound n (add d p.0) p.1))
      ] refl

-- Parts that are read one by one.
module _ {A B : Type 0} (item : Reader B) (Item : ℕ → ℕ → B → Type 0) (add : A → B → A)
    (sound : (i j : ℕ) (x : B) → item i ≡ Some (x, j) → Item i j x) where
  abbrev all : ℕ → A → ℕ → A × ℕ
  all = chain (λ _. item) add

  all-zero : (a : A) (i : ℕ) → all 0 a i ≡ (a, i)
  unfolding chain
  all-zero a i = refl

  all-suc : (n : ℕ) (a : A) (i : ℕ) (r : Option (B × ℕ)) → item i ≡ r → all (suc n) a i ≡ option_map_or (λ p. all n (add a p.0) p.1) r (a, i)
  unfolding chain
  all-suc n a i r e = ap (λ o. option_map_or (λ (p : B × ℕ). chain (λ _. item) add n (add a p.0) p.1) o (a, i)) e

  pub many-sound : (n : ℕ) (a : A) (i : ℕ) → Many Item add a i (all n a i).1 (all n a i).0
  many-sound zero a i = subst (λ (q : A × ℕ). Many Item add a i q.1 q.0) (sym (all-zero a i)) none_left
  many-sound (suc n) a i =
      elim (item i) as (λ (r : Option (B × ℕ)). item i ≡ r → Many Item add a i (all (suc n) a i).1 (all (suc n) a i).0) [
        | None ↦ λ e. subst (λ (q : A × ℕ). Many Item add a i q.1 q.0) (sym (all-suc n a i None e)) none_left
        | Some p ↦ λ e.
            subst (λ (q : A × ℕ). Many Item add a i q.1 q.0) (sym (all-suc n a i (Some p) e)) (one_more (sound i p.1 p.0 e) (many-sound n (add a p.0) p.1))
      ] refl

-- what is read, and then what depends on it
pub record Read {A B : Type 0} (r : Result (A × ℕ) Refused) (f : A → ℕ → Result B Refused) (y : B) : Type 0 where
  pub part : A
  pub end : ℕ
  pub read : r ≡ Ok (part, end)
  pub rest : f part end ≡ Ok y

pub so-ok : {A B : Type 0} (r : Result (A × ℕ) Refused) (f : A → ℕ → Result B Refused) (y : B) → so r f ≡ Ok y → Read r f y
so-ok (Err refused) f y h = absurd (cc)
so-ok (Ok p) f y h = record { part = p.0; end = p.1; read = refl; rest = h }

pub record ReadAt {B : Type 0} (r : Result ℕ Refused) (f : ℕ → Result B Refused) (y : B) : Type 0 where
  pub end : ℕ
  pub read : r ≡ Ok end
  pub rest : f end ≡ Ok y

pub so_at-ok : {B : Type 0} (r : Result ℕ Refused) (f : ℕ → Result B Refused) (y : B) → so_at r f ≡ Ok y → ReadAt r f y
so_at-ok (Err refused) f y h = absurd (cc)
so_at-ok (Ok j) f y h = record { end = j; read = refl; rest = h }

pub ok_found : {X : Type 0} (x y : X) (i j : ℕ) → ◌≡◌ {A = Result (X × ℕ) Refused} (Ok (x, i)) (Ok (y, j)) → (x ≡ y) × (i ≡ j)
ok_found {X = X} x y i j h = let e : ◌≡◌ {A = X × ℕ} (x, i) (y, j) = cc in (ap (λ p. p.0) e, ap (λ p. p.1) e)

-- Units that begin one after the other.
pub record Added {A B : Type 0} (Item : ℕ → ℕ → B → Type 0) (add : A → B → A) (a : A) (i j : ℕ) (b : A) : Type 0 where
  pub part : B
  pub item : Item i j part
  pub is : b ≡ add a part

module _ {A B : Type 0} (begins : ℕ → Bool) (next : A → ℕ → Result (A × ℕ) Refused) (Item : ℕ → ℕ → B → Type 0) (add : A → B → A)
    (sound : (a : A) (i j : ℕ) (b : A) → next a i ≡ Ok (b, j) → Added Item add a i j b) where
  pub each-sound : (n : ℕ) (a : A) (i j : ℕ) (b : A) → each begins next n a i ≡ Ok (b, j) → Many Item add a i j b
  unfolding each
  each-sound zero a i j b h =
      let same = ok_found a b i j h in
      subst (λ (m : ℕ). Many Item add a i m b) same.1 (subst (λ (c : A). Many Item add a i i c) same.0 none_left)
  each-sound (suc n) a i j b h =
      if_either (begins i) (so (next a i) (λ c m. each begins next n c m)) (Ok (a, i)) (Ok (b, j)) (Many Item add a i j b) h
      (λ is begun.
      let step = so-ok (next a i) (λ c m. each begins next n c m) (b, j) begun in
      let added = sound a i step.end step.part step.read in
      one_more added.item (subst (λ (c : A). Many Item add c step.end j b) added.is (each-sound n step.part step.end j b step.rest)))
      (λ is over.
      let same = ok_found a b i j over in
      subst (λ (m : ℕ). Many Item add a i m b) same.1 (subst (λ (c : A). Many Item add a i i c) same.0 none_left))
