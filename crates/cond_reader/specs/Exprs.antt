-- How operands and expressions are read.
use Rattle.std.specs.Prelude.{ℕ, zero, suc, ◌+◌, if◌then◌else◌, length, Option, Some, None}
use Rattle.decimal_bytes.specs.declared.form.Scaled.{Scaled}
use Rattle.cobol_syntax.specs.declared.expr.Operand.{Operand}
use Rattle.cobol_syntax.specs.declared.expr.Operand.TheVariants as operand
use Rattle.cobol_syntax.specs.declared.expr.Expr.{Expr}
use Rattle.cobol_syntax.specs.declared.expr.Expr.TheVariants as e
use Rattle.cond_reader.specs.declared.symbol.Symbol.{Symbol}
use Rattle.cond_reader.specs.declared.symbol.Symbol.TheVariants as s
use Rattle.cond_reader.specs.declared.expr.Operator.{Operator}
use Rattle.cond_reader.specs.declared.expr.Operator.TheVariants as op
use Rattle.cond_reader.specs.Text.{Text, symbol, sees, spelling}
use Rattle.cond_reader.specs.Chars.{numeral}
use Rattle.cond_reader.specs.Reads.{Reader, and_then, chain}
use Rattle.cond_reader.specs.Places.{place, opens, closed}

-- the byte of a figure
abbrev pub figure : Symbol → Option ℕ
figure s.Zero = Some 48
figure s.Zeros = Some 48
figure s.Space = Some 32
figure s.HighValue = Some 255
figure s.LowValue = Some 0
figure s.Quote = Some 34
figure _ = None

abbrev pub sum_operator : Symbol → Option Operator
sum_operator s.Plus = Some op.Add
sum_operator s.Minus = Some op.Sub
sum_operator _ = None

abbrev pub product_operator : Symbol → Option Operator
product_operator s.Star = Some op.Mul
product_operator s.Slash = Some op.Div
product_operator _ = None

abbrev pub operation : Operator → Expr → Expr → Expr
operation op.Add left right = e.Add left right
operation op.Sub left right = e.Sub left right
operation op.Mul left right = e.Mul left right
operation op.Div left right = e.Div left right

abbrev pub joined : Expr → Operator × Expr → Expr
joined left part = operation part.0 left part.1

-- an operator and what follows it
abbrev pub after_operator : Reader Expr → ℕ → Option Operator → Option ((Operator × Expr) × ℕ)
after_operator read i None = None
after_operator read i (Some o) = and_then (read (i + 1)) (λ right j. Some ((o, right), j))

module _ (t : Text) where
  abbrev pub number_operand : ℕ → Option (Scaled × ℕ) → Option (Operand × ℕ)
  number_operand i None = None
  number_operand i (Some n) = Some (operand.Number (n.0) (n.1) i, i + 1)

  abbrev pub figure_operand : ℕ → Option ℕ → Option (Operand × ℕ)
  figure_operand i None = None
  figure_operand i (Some byte) = Some (operand.Figure byte i, i + 1)

  unfoldable pub constant : Reader Operand
  constant i =
      if sees t s.Number i then number_operand i (numeral (spelling t i))
      else (if sees t s.Literal i then Some (operand.Text (spelling t i) i, i + 1) else figure_operand i (figure (symbol t i)))

  unfoldable pub operand_at : ℕ → Reader Operand
  operand_at level i =
      if sees t s.Name i then and_then (place t level i) (λ p j. Some (operand.Place p, j)) else constant i

  -- what parentheses hold is read by `inner`
  module _ (level : ℕ) (inner : Reader Expr) where
    unfoldable pub atom : Reader Expr
    atom i =
        if opens t level i then and_then (inner (i + 1)) (λ x j. closed t x j)
        else and_then (operand_at level i) (λ o j. Some (e.One o, j))

    unfoldable pub factor : Reader Expr
    factor i =
        if sees t s.Plus i then atom (i + 1)
        else (if sees t s.Minus i then and_then (atom (i + 1)) (λ x j. Some (e.Minus x, j)) else atom i)

    unfoldable pub next_factor : Reader (Operator × Expr)
    next_factor i = after_operator factor i (product_operator (symbol t i))

    unfoldable pub more_factors : Expr → ℕ → Expr × ℕ
    more_factors = chain (λ _. next_factor) joined (length t.kinds)

    unfoldable pub term : Reader Expr
    term i = and_then (factor i) (λ first j. Some (more_factors first j))

    unfoldable pub next_term : Reader (Operator × Expr)
    next_term i = after_operator term i (sum_operator (symbol t i))

    unfoldable pub more_terms : Expr → ℕ → Expr × ℕ
    more_terms = chain (λ _. next_term) joined (length t.kinds)

    unfoldable pub sum : Reader Expr
    sum i = and_then (term i) (λ first j. Some (more_terms first j))

  -- what stands inside a parenthesis, where at most this many are inside one another
  unfoldable pub inside : ℕ → Reader Expr
  inside zero = λ i. None
  inside (suc level) = sum level (inside level)

  unfoldable pub expr : ℕ → Reader Expr
  expr level = sum level (inside level)
