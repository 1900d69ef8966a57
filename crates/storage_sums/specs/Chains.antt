-- Expressions along their first operands: the first operand of all, and the operations on it.
use Rattle.std.specs.Prelude.{◌<◌, ℕ, neg_ℤ, List, [], ◌∷◌, Option, Some, None}
use Rattle.cobol_syntax.specs.declared.expr.Expr.{size-Expr}
use Rattle.program_meaning.specs.Answer.{Answer, and_then}
use Rattle.program_meaning.specs.Arithmetic.{Scaled, narrow_at, add, subtract, multiply, divide, both, value}
use Rattle.program_meaning.specs.Layout.{Layout}
use Rattle.program_meaning.specs.Storage.{Storage}
use Rattle.program_meaning.specs.Tree as tree
use Rattle.tree_reading.specs.Reading.{read_expr}
use Rattle.storage_sums.specs.declared.chain.Term.{Term}
use Rattle.storage_sums.specs.declared.chain.Term.TheVariants as term

-- an expression with an operation behind it
abbrev pub operation : Term → tree.Expr → tree.Expr
operation term.Minus first = tree.Minus first
operation (term.Add right) first = tree.Add first (read_expr right.now)
operation (term.Sub right) first = tree.Sub first (read_expr right.now)
operation (term.Mul right) first = tree.Mul first (read_expr right.now)
operation (term.Div right) first = tree.Div first (read_expr right.now)

-- with all operations behind it, the last one first
abbrev pub chained : List Term → tree.Expr → tree.Expr
chained [] first = first
chained (t ∷ ts) first = operation t (chained ts first)

-- how large the second operand of an operation is
abbrev pub size-Term : Term → ℕ
size-Term term.Minus = 0
size-Term (term.Add right) = size-Expr right.now
size-Term (term.Sub right) = size-Expr right.now
size-Term (term.Mul right) = size-Expr right.now
size-Term (term.Div right) = size-Expr right.now

-- it is smaller than this
abbrev pub IsBelow : ℕ → Term → Type 0
IsBelow size t = size-Term t < size

module _ (layout : Layout) (store : Storage) where
  -- an operation on what the first operand gives
  abbrev pub operated : Term → Answer Scaled → Answer Scaled
  operated term.Minus first = and_then first (λ a. narrow_at a.scale (neg_ℤ a.number))
  operated (term.Add right) first = both layout store first (value layout store (read_expr right.now)) add
  operated (term.Sub right) first = both layout store first (value layout store (read_expr right.now)) subtract
  operated (term.Mul right) first = both layout store first (value layout store (read_expr right.now)) multiply
  operated (term.Div right) first = both layout store first (value layout store (read_expr right.now)) divide

  -- all operations, the last one first
  abbrev pub all_operated : List Term → Answer Scaled → Answer Scaled
  all_operated [] first = first
  all_operated (t ∷ ts) first = operated t (all_operated ts first)

-- the dividend and the divisor of a division
abbrev pub division : tree.Expr → Option (tree.Expr × tree.Expr)
division (tree.One o) = None
division (tree.Minus x) = None
division (tree.Add x y) = None
division (tree.Sub x y) = None
division (tree.Mul x y) = None
division (tree.Div x y) = Some (x, y)
