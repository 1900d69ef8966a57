-- Operands, and so expressions, are read as the grammar says.
use Rattle.std.proofs.Common.{◌≡◌, ℕ, ◌+◌, Bool, true, false, ◌<◌, ◌⊎◌, inl, inr, Option, Some, None, length, refl, ap, sym, subst, ◌∙◌, arith, if◌then◌else◌}
use Rattle.decimal_bytes.specs.declared.form.Scaled.{Scaled}
use Rattle.cobol_syntax.specs.declared.place.Place.{Place}
use Rattle.cobol_syntax.specs.declared.expr.Operand.{Operand}
use Rattle.cobol_syntax.specs.declared.expr.Operand.TheVariants as o
use Rattle.cond_reader.specs.declared.symbol.Symbol.{Symbol}
use Rattle.cond_reader.specs.declared.symbol.Symbol.TheVariants as s
use Rattle.cond_reader.specs.declared.expr.Operator.{Operator}
use Rattle.cond_reader.specs.Text.{Text, symbol, sees, spelling}
use Rattle.cond_reader.specs.Chars.{numeral}
use Rattle.cond_reader.specs.Reads.{and_then}
use Rattle.cond_reader.specs.Places.{place}
use Rattle.cond_reader.specs.Exprs.{figure, number_operand, figure_operand, constant, operand_at, expr, sum_operator, product_operator}
use Rattle.cond_reader.specs.Grammar.{IsPlace}
use Rattle.cond_reader.specs.ExprGrammar.{IsOperand, IsExpr}
use Rattle.cond_reader.specs.ExprGrammar.IsOperand.{place as of_place, number as of_number, literal as of_literal, figurative as of_figure}
use Rattle.cond_reader.proofs.Best.{Agrees, Longer}
use Rattle.cond_reader.proofs.Seen.{found, then_some}
use Rattle.cond_reader.proofs.Words.{same-true, sees-is, sees-not, within}
use Rattle.cond_reader.proofs.PlaceLaws.{PlaceGoes, place-agrees}
use Rattle.cond_reader.proofs.ExprLaws.{GoesOn, expr-agrees}

module _ (t : Text) (level : ℕ) where
  abbrev by_figure : ℕ → Option (Operand × ℕ)
  by_figure i = figure_operand t i (figure (symbol t i))

  abbrev by_kind : Bool → Bool → Bool → ℕ → Option (Operand × ℕ)
  by_kind is_name is_number is_literal i =
      if is_name then and_then (place t level i) (λ p j. Some (o.Place p, j))
      else (if is_number then number_operand t i (numeral (spelling t i)) else (if is_literal then Some (o.Text (spelling t i) i, i + 1) else by_figure i))

  operand-by : (i : ℕ) (a b c : Bool) → sees t s.Name i ≡ a → sees t s.Number i ≡ b → sees t s.Literal i ≡ c → operand_at t level i ≡ by_kind a b c i
  unfolding operand_at constant
  operand-by i a b c p q r =
      ap (λ x. by_kind x (sees t s.Number i) (sees t s.Literal i) i) p ∙ ap (λ x. by_kind a x (sees t s.Literal i) i) q ∙ ap (λ x. by_kind a b x i) r

  operand-cases : (i j : ℕ) (x : Operand) (a b c : Bool) → sees t s.Name i ≡ a → sees t s.Number i ≡ b → sees t s.Literal i ≡ c → by_kind a b c i ≡ Some (x, j) → IsOperand t level i j x
  operand-cases i j x true b c p q r h =
      let step = then_some (place t level i) (λ y k. Some (o.Place y, k)) (x, j) h in
      let same = found (o.Place step.part) x step.end j step.rest in
      subst (λ (y : Operand). IsOperand t level i j y) same.0
      (of_place ((place-agrees t level).sound i j step.part (step.read ∙ ap (λ k. Some (step.part, k)) same.1)))
  operand-cases i j x false true c p q r h =
      elim (numeral (spelling t i)) as (λ (v : Option (Scaled × ℕ)). numeral (spelling t i) ≡ v → IsOperand t level i j x) [
        | None ↦ λ none. let nothing = ap (number_operand t i) none in absurd (cc)
        | Some n ↦ λ some.
            let same = found (o.Number (n.0) (n.1) i) x (i + 1) j (sym (ap (number_operand t i) some) ∙ h) in
            subst (λ (y : Operand). IsOperand t level i j y) same.0 (of_number (record { kind_is = same-true _ _ q; next_is = sym same.1 }) some)
      ] refl
  operand-cases i j x false false true p q r h =
      let same = found (o.Text (spelling t i) i) x (i + 1) j h in
      subst (λ (y : Operand). IsOperand t level i j y) same.0 (of_literal (record { kind_is = same-true _ _ r; next_is = sym same.1 }))
  operand-cases i j x false false false p q r h =
      elim (figure (symbol t i)) as (λ (v : Option ℕ). figure (symbol t i) ≡ v → IsOperand t level i j x) [
        | None ↦ λ none. let nothing = ap (figure_operand t i) none in absurd (cc)
        | Some byte ↦ λ some.
            let same = found (o.Figure byte i) x (i + 1) j (sym (ap (figure_operand t i) some) ∙ h) in
            subst (λ (y : Operand). IsOperand t level i j y) same.0 (of_figure some (sym same.1))
      ] refl

  place-first : (i j : ℕ) (p : Place) → IsPlace t level i j p → symbol t i ≡ s.Name
  place-first i j p w = w.names.one.word.kind_is

  figure-not : (i byte : ℕ) (k : Symbol) → figure k ≡ None → figure (symbol t i) ≡ Some byte → symbol t i ≡ k → ⊥
  figure-not i byte k none some is = let same : figure (symbol t i) ≡ None = ap figure is ∙ none in cc

  operand-best : (i j : ℕ) (x : Operand) → IsOperand t level i j x → (operand_at t level i ≡ Some (x, j)) ⊎ (PlaceGoes t j × Longer (operand_at t level) i j)
  operand-best i j _ (of_place {p = p} w) =
      let here = operand-by i true _ _ (sees-is t s.Name i (place-first i j p w)) refl refl in
      elim ((place-agrees t level).best i j p w) [
        | inl read ↦ inl (here ∙ ap (λ r. and_then r (λ y k. Some (o.Place y, k))) read)
        | inr g ↦ inr (g.0, record { tree = o.Place g.1.tree; end = g.1.end; read = here ∙ ap (λ r. and_then r (λ y k. Some (o.Place y, k))) g.1.read; beyond = g.1.beyond })
      ]
  operand-best i j _ (of_number {n = n} word value) =
      let not_name : symbol t i ≡ s.Name → ⊥ = λ is. let both : s.Name ≡ s.Number = sym is ∙ word.kind_is in cc in
      inl (operand-by i false true _ (sees-not t s.Name i not_name) (sees-is t s.Number i word.kind_is) refl
      ∙ ap (number_operand t i) value ∙ ap (λ k. Some (o.Number (n.0) (n.1) i, k)) (sym word.next_is))
  operand-best i j _ (of_literal word) =
      let not_name : symbol t i ≡ s.Name → ⊥ = λ is. let both : s.Name ≡ s.Literal = sym is ∙ word.kind_is in cc in
      let not_number : symbol t i ≡ s.Number → ⊥ = λ is. let both : s.Number ≡ s.Literal = sym is ∙ word.kind_is in cc in
      inl (operand-by i false false true (sees-not t s.Name i not_name) (sees-not t s.Number i not_number) (sees-is t s.Literal i word.kind_is)
      ∙ ap (λ k. Some (o.Text (spelling t i) i, k)) (sym word.next_is))
  operand-best i j _ (of_figure {byte = byte} some next) =
      inl (operand-by i false false false (sees-not t s.Name i (figure-not i byte s.Name refl some)) (sees-not t s.Number i (figure-not i byte s.Number refl some))
      (sees-not t s.Literal i (figure-not i byte s.Literal refl some)) ∙ ap (figure_operand t i) some ∙ ap (λ k. Some (o.Figure byte i, k)) (sym next))

  operand-moves : (i j : ℕ) (x : Operand) → IsOperand t level i j x → (i < j) × (i < length t.kinds)
  operand-moves i j _ (of_place {p = p} w) = (place-agrees t level).moves i j p w
  operand-moves i j _ (of_number word value) = (omega (arith, word.next_is), within t s.Number i word.kind_is (λ same. cc))
  operand-moves i j _ (of_literal word) = (omega (arith, word.next_is), within t s.Literal i word.kind_is (λ same. cc))
  operand-moves i j _ (of_figure {byte = byte} some next) = (omega (arith, next), within t (symbol t i) i refl (figure-not i byte s.End refl some))

  pub operand-agrees : Agrees (length t.kinds) (operand_at t level) (IsOperand t level) (PlaceGoes t)
  operand-agrees = record {
    sound = λ i j x h. operand-cases i j x _ _ _ refl refl refl (sym (operand-by i _ _ _ refl refl refl) ∙ h);
    best = operand-best;
    moves = operand-moves;
  }

  operand-not : (k : Symbol) → (k ≡ s.Name → ⊥) → (k ≡ s.Number → ⊥) → (k ≡ s.Literal → ⊥) → figure k ≡ None → (i j : ℕ) (x : Operand) → IsOperand t level i j x → symbol t i ≡ k → ⊥
  operand-not k a b c d i j _ (of_place {p = p} w) is = a (sym is ∙ place-first i j p w)
  operand-not k a b c d i j _ (of_number word value) is = b (sym is ∙ word.kind_is)
  operand-not k a b c d i j _ (of_literal word) is = c (sym is ∙ word.kind_is)
  operand-not k a b c d i j _ (of_figure {byte = byte} some next) is = figure-not i byte k d some is

goes-not : (t : Text) (f : Symbol → Option Operator) → f s.Of ≡ None → f s.Open ≡ None → (i : ℕ) → PlaceGoes t i → (x : Operator) → f (symbol t i) ≡ Some x → ⊥
goes-not t f a b i (inl is) x some = let none : f (symbol t i) ≡ None = ap f is ∙ a in cc
goes-not t f a b i (inr is) x some = let none : f (symbol t i) ≡ None = ap f is ∙ b in cc

goes-not-close : (t : Text) (i : ℕ) → PlaceGoes t i → symbol t i ≡ s.Close → ⊥
goes-not-close t i (inl is) at = let both : s.Of ≡ s.Close = sym is ∙ at in cc
goes-not-close t i (inr is) at = let both : s.Open ≡ s.Close = sym is ∙ at in cc

pub exprs-agree : (t : Text) (level : ℕ) → Agrees (length t.kinds) (expr t level) (IsExpr t (IsOperand t) level) (GoesOn t (PlaceGoes t))
exprs-agree t level =
    expr-agrees t (IsOperand t) (λ _. PlaceGoes t) (operand-agrees t)
    (λ l i j x w. (
      operand-not t l s.Open (λ e. cc) (λ e. cc) (λ e. cc) refl i j x w,
      operand-not t l s.Plus (λ e. cc) (λ e. cc) (λ e. cc) refl i j x w,
      operand-not t l s.Minus (λ e. cc) (λ e. cc) (λ e. cc) refl i j x w,
    ))
    (λ l. goes-not t product_operator refl refl) (λ l. goes-not t sum_operator refl refl) (λ l. goes-not-close t) level
