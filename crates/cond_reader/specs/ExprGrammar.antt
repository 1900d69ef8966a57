-- The grammar of expressions over operands.
use Rattle.std.specs.Prelude.{◌≡◌, ℕ, zero, suc, ◌+◌, ◌<◌, Option, Some}
use Rattle.cobol_syntax.specs.declared.expr.Operand.{Operand}
use Rattle.cobol_syntax.specs.declared.expr.Expr.{Expr}
use Rattle.cobol_syntax.specs.declared.expr.Expr.TheVariants as e
use Rattle.cond_reader.specs.declared.symbol.Symbol.{Symbol}
use Rattle.cond_reader.specs.declared.symbol.Symbol.TheVariants as s
use Rattle.cond_reader.specs.declared.expr.Operator.{Operator}
use Rattle.cond_reader.specs.Text.{Text, symbol, spelling}
use Rattle.cond_reader.specs.Exprs.{figure, joined, sum_operator, product_operator}
use Rattle.decimal_bytes.specs.declared.form.Scaled.{Scaled}
use Rattle.cobol_syntax.specs.declared.expr.Operand.TheVariants as v
use Rattle.cobol_syntax.specs.declared.place.Place.{Place}
use Rattle.cond_reader.specs.Chars.{numeral}
use Rattle.cond_reader.specs.Grammar.{Is, Chain, IsPlace}

abbrev pub itself : Expr → Expr
itself x = x

module _ (t : Text) where
  -- an operator and what follows it
  pub record After (operator : Symbol → Option Operator) (Part : ℕ → ℕ → Expr → Type 0) (i j : ℕ) (p : Operator × Expr) : Type 0 where
    pub sign : operator (symbol t i) ≡ Some (p.0)
    pub part : Part (i + 1) j (p.1)

module _ (t : Text) (IsOperand : ℕ → ℕ → ℕ → Operand → Type 0) (level : ℕ) (Inside : ℕ → ℕ → Expr → Type 0) where
  -- ( expr ), where a level is left
  pub record Parenthesized (i j : ℕ) (x : Expr) : Type 0 where
    pub start : ℕ
    pub end : ℕ
    pub allowed : 0 < level
    pub open_mark : Is t s.Open i start
    pub within : Inside start end x
    pub close_mark : Is t s.Close end j

  -- operand | ( expr )
  pub data Atom : ℕ → ℕ → Expr → Type 0 where
    operand : {i j : ℕ} {o : Operand} → IsOperand level i j o → Atom i j (e.One o)
    parenthesized : {i j : ℕ} {x : Expr} → Parenthesized i j x → Atom i j x

  -- (+|-)? atom
  pub data Factor : ℕ → ℕ → Expr → Type 0 where
    plus : {i k j : ℕ} {x : Expr} → Is t s.Plus i k → Atom k j x → Factor i j x
    minus : {i k j : ℕ} {x : Expr} → Is t s.Minus i k → Atom k j x → Factor i j (e.Minus x)
    plain : {i j : ℕ} {x : Expr} → Atom i j x → Factor i j x

  -- factor ((*|/) factor)*
  abbrev pub Term : ℕ → ℕ → Expr → Type 0
  Term = Chain Factor itself (After t product_operator Factor) joined

  -- term ((+|-) term)*
  abbrev pub Sum : ℕ → ℕ → Expr → Type 0
  Sum = Chain Term itself (After t sum_operator Term) joined

module _ (t : Text) (IsOperand : ℕ → ℕ → ℕ → Operand → Type 0) where
  abbrev pub Inside : ℕ → ℕ → ℕ → Expr → Type 0
  Inside zero i j x = ⊥
  Inside (suc level) i j x = Sum t IsOperand level (Inside level) i j x

  -- an expression with at most this many parentheses inside one another
  abbrev pub IsExpr : ℕ → ℕ → ℕ → Expr → Type 0
  IsExpr level = Sum t IsOperand level (Inside level)

module _ (t : Text) where
  -- place | number | literal | figure
  pub data IsOperand (level : ℕ) : ℕ → ℕ → Operand → Type 0 where
    place : {i j : ℕ} {p : Place} → IsPlace t level i j p → IsOperand level i j (v.Place p)
    number : {i j : ℕ} {n : Scaled × ℕ} → Is t s.Number i j → numeral (spelling t i) ≡ Some n → IsOperand level i j (v.Number (n.0) (n.1) i)
    literal : {i j : ℕ} → Is t s.Literal i j → IsOperand level i j (v.Text (spelling t i) i)
    figurative : {i j byte : ℕ} → figure (symbol t i) ≡ Some byte → j ≡ i + 1 → IsOperand level i j (v.Figure byte i)
