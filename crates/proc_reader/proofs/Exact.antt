-- A reader beside a relation: what it answers is related, and where it answers nothing, nothing is.
use Rattle.std.proofs.Common.{◌≡◌, ℕ, zero, suc, ◌+◌, ◌<◌, ◌≤◌, inl, inr, Option, Some, None, length, refl, ap, sym, subst, ◌∙◌, arith, List}
use Rattle.std.specs.Option.{option_map_or}
use Rattle.cond_reader.specs.Text.{Text}
use Rattle.cond_reader.specs.Reads.{Reader, chain}
use Rattle.cond_reader.specs.Places.{name, place}
use Rattle.cond_reader.specs.Exprs.{operand_at, expr}
use Rattle.cond_reader.specs.Conds.{condition_at}
use Rattle.cond_reader.specs.Grammar.{Name, IsPlace}
use Rattle.cond_reader.specs.ExprGrammar.{IsOperand, IsExpr}
use Rattle.cond_reader.specs.CondGrammar.{IsCondition}
use Rattle.cond_reader.specs.Longest.{IsLongest}
use Rattle.cond_reader.proofs.Best.{Agrees}
use Rattle.cond_reader.proofs.LongestLaws.{longest, longest_condition}
use Rattle.cond_reader.proofs.PlaceLaws.{name-agrees, place-agrees}
use Rattle.cond_reader.proofs.OperandLaws.{operand-agrees, exprs-agree}
use Rattle.cond_reader.proofs.PieceLaws.{pieces-agree}
use Rattle.proc_reader.specs.Grammar.{Many, Longest}
use Rattle.proc_reader.specs.Grammar.Many.{stop, more}

pub record Exact {A : Type 0} (size : ℕ) (p : Reader A) (P : ℕ → ℕ → A → Type 0) : Type 0 where
  pub sound : (i j : ℕ) (x : A) → p i ≡ Some (x, j) → P i j x
  pub best : (i j : ℕ) (x : A) → P i j x → p i ≡ Some (x, j)
  pub moves : (i j : ℕ) (x : A) → P i j x → (i < j) × (i < size)

pub nothing : {A : Type 0} {size : ℕ} {p : Reader A} {P : ℕ → ℕ → A → Type 0} → Exact size p P → (i : ℕ) → p i ≡ None → (j : ℕ) (x : A) → P i j x → ⊥
nothing exact i none j x w = let read = exact.best i j x w in cc

longest-same : {A : Type 0} (P : ℕ → ℕ → A → Type 0) (i j : ℕ) (x : A) (r : Option (A × ℕ)) → IsLongest P i r → IsLongest P i (Some (x, j)) → r ≡ Some (x, j)
longest-same P i j x None none w = absurd (none j x w.0)
longest-same {A = A} P i j x (Some r) one w =
    elim (one.1 j x w.0) [
      | inr same ↦ let e : ◌≡◌ {A = Option (A × ℕ)} (Some (x, j)) (Some (r.0, r.1)) = rw (same.0, same.1) refl in sym e
      | inl less ↦ elim (w.1 r.1 r.0 one.0) [
        | inl more_than ↦ absurd (omega (arith, less, more_than))
        | inr same ↦ absurd (omega (arith, less, same.1))
      ]
    ]

-- what is read is the longest reading
pub exact-longest : {A : Type 0} (size : ℕ) (p : Reader A) (P : ℕ → ℕ → A → Type 0) (go : ℕ → Type 0) → Agrees size p P go → Exact size p (Longest P)
exact-longest size p P go agrees = record {
  sound = λ i j x e. subst (λ r. IsLongest P i r) e (longest size p P go agrees i);
  best = λ i j x w. longest-same P i j x (p i) (longest size p P go agrees i) w;
  moves = λ i j x w. agrees.moves i j x w.0;
}

name-best : (t : Text) (i j : ℕ) (n : List ℕ) → Name t i j n → name t i ≡ Some (n, j)
name-best t i j n w = elim ((name-agrees t).best i j n w) [ inl read ↦ read | inr g ↦ absurd (g.0) ]

pub exact-name : (t : Text) → Exact (length t.kinds) (name t) (Name t)
exact-name t = record { sound = (name-agrees t).sound; best = name-best t; moves = (name-agrees t).moves }

pub exact-place : (t : Text) (level : ℕ) → Exact (length t.kinds) (place t level) (Longest (IsPlace t level))
exact-place t level = exact-longest _ (place t level) _ _ (place-agrees t level)

pub exact-operand : (t : Text) (level : ℕ) → Exact (length t.kinds) (operand_at t level) (Longest (IsOperand t level))
exact-operand t level = exact-longest _ (operand_at t level) _ _ (operand-agrees t level)

pub exact-expr : (t : Text) (level : ℕ) → Exact (length t.kinds) (expr t level) (Longest (IsExpr t (IsOperand t) level))
exact-expr t level = exact-longest _ (expr t level) _ _ (exprs-agree t level)

pub exact-condition : (t : Text) (level : ℕ) → Exact (length t.kinds) (condition_at t level) (Longest (IsCondition t level))
exact-condition t level = record {
  sound = λ i j x e. subst (λ r. IsLongest (IsCondition t level) i r) e (longest_condition t level i);
  best = λ i j x w. longest-same (IsCondition t level) i j x (condition_at t level i) (longest_condition t level i) w;
  moves = λ i j x w. (pieces-agree t level None).moves i j _ (w.0.reads);
}

-- a chain of items takes as many as there are
module _ {A B : Type 0} (size : ℕ) (item : A → Reader B) (Item : A → ℕ → ℕ → B → Type 0) (add : A → B → A)
    (exact : (a : A) → Exact size (item a) (Item a)) where
  chain-zero : (a : A) (i : ℕ) → chain item add 0 a i ≡ (a, i)
  unfolding chain
  chain-zero a i = refl

  chain-suc : (n : ℕ) (a : A) (i : ℕ) (r : Option (B × ℕ)) → item a i ≡ r
      → chain item add (suc n) a i ≡ option_map_or (λ (p : B × ℕ). chain item add n (add a p.0) p.1) r (a, i)
  unfolding chain
  chain-suc n a i r e = ap (λ o. option_map_or (λ (p : B × ℕ). chain item add n (add a p.0) p.1) o (a, i)) e

  past : (a : A) (i : ℕ) → size ≤ i + 0 → (j : ℕ) (b : B) → Item a i j b → ⊥
  past a i over j b w = omega (arith, (exact a).moves i j b w)

  pub many : (n : ℕ) (a : A) (i : ℕ) → size ≤ i + n → Many Item add a i (chain item add n a i).1 (chain item add n a i).0
  many zero a i fits = subst (λ (q : A × ℕ). Many Item add a i q.1 q.0) (sym (chain-zero a i)) (stop (past a i fits))
  many (suc n) a i fits =
      elim (item a i) as (λ (r : Option (B × ℕ)). item a i ≡ r → Many Item add a i (chain item add (suc n) a i).1 (chain item add (suc n) a i).0) [
        | None ↦ λ e. subst (λ (q : A × ℕ). Many Item add a i q.1 q.0) (sym (chain-suc n a i None e)) (stop (nothing (exact a) i e))
        | Some p ↦ λ e. let w = (exact a).sound i p.1 p.0 e in
            let forth : (i < p.1) × (i < size) = (exact a).moves i p.1 p.0 w in
            let left : size ≤ p.1 + n = omega (arith, forth) in
            subst (λ (q : A × ℕ). Many Item add a i q.1 q.0) (sym (chain-suc n a i (Some p) e)) (more w (many n (add a p.0) p.1 left))
      ] refl

  -- what is taken is all that the relation has
  pub many-best : {a c : A} {i j : ℕ} → Many Item add a i j c → (n : ℕ) → size ≤ i + n → chain item add n a i ≡ (c, j)
  many-best {a} {c} {i} {j} (stop no_item) zero fits = chain-zero a i
  many-best {a} {c} {i} {j} (stop no_item) (suc n) fits =
      elim (item a i) as (λ (r : Option (B × ℕ)). item a i ≡ r → chain item add (suc n) a i ≡ (a, i)) [
        | None ↦ λ e. chain-suc n a i None e
        | Some p ↦ λ e. absurd (no_item p.1 p.0 ((exact a).sound i p.1 p.0 e))
      ] refl
  many-best {a} {c} {i} {j} (more {m = m} {b = b} one rest) zero fits = absurd (past a i fits m b one)
  many-best {a} {c} {i} {j} (more {m = m} {b = b} one rest) (suc n) fits =
      let forth : (i < m) × (i < size) = (exact a).moves i m b one in
      let left : size ≤ m + n = omega (arith, forth) in
      chain-suc n a i (Some (b, m)) ((exact a).best i m b one) ∙ many-best rest n left

  pub many-grows : {a c : A} {i j : ℕ} → Many Item add a i j c → i ≤ j
  many-grows (stop no_item) = omega arith
  many-grows (more {a = a} {i = i} {m = m} {b = b} one rest) = omega (arith, (exact a).moves i m b one, many-grows rest)
