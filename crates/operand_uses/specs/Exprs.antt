-- Arithmetic expressions.
use Rattle.std.specs.Prelude.{ℕ, Bool, ◌&&◌, Option, Some, None}
use Rattle.cobol_syntax.specs.declared.expr.Expr.{Expr, Expr-F, fold-Expr}
use Rattle.cobol_syntax.specs.declared.expr.Expr.TheOpen as e
use Rattle.data_layout.specs.declared.item.Layout.{Layout}
use Rattle.operand_uses.specs.declared.fault.UseFault.{UseFault}
use Rattle.operand_uses.specs.declared.sort.Sort.{Sort}
use Rattle.operand_uses.specs.Order.{sooner}
use Rattle.operand_uses.specs.Operands.{operand_fault, sort_of, counts, compares_right}

module _ (layout : Layout) where
  abbrev pub expr_fault_layer : ℕ → Expr-F (Option UseFault) → Option UseFault
  expr_fault_layer owner (e.One x) = operand_fault layout owner x
  expr_fault_layer owner (e.Minus x) = x
  expr_fault_layer owner (e.Add x y) = sooner x y
  expr_fault_layer owner (e.Sub x y) = sooner x y
  expr_fault_layer owner (e.Mul x y) = sooner x y
  expr_fault_layer owner (e.Div x y) = sooner x y

  -- the first fault of the identifiers in an expression
  abbrev pub expr_fault : ℕ → Expr → Option UseFault
  expr_fault owner = fold-Expr (Option UseFault) (expr_fault_layer owner)

  abbrev pub all_numbers_layer : Expr-F Bool → Bool
  all_numbers_layer (e.One x) = counts (sort_of layout x)
  all_numbers_layer (e.Minus x) = x
  all_numbers_layer (e.Add x y) = x && y
  all_numbers_layer (e.Sub x y) = x && y
  all_numbers_layer (e.Mul x y) = x && y
  all_numbers_layer (e.Div x y) = x && y

  -- all operands are numbers
  abbrev pub all_numbers : Expr → Bool
  all_numbers = fold-Expr Bool all_numbers_layer

  abbrev pub single_layer : Expr-F (Option Sort) → Option Sort
  single_layer (e.One x) = Some (sort_of layout x)
  single_layer (e.Minus x) = None
  single_layer (e.Add x y) = None
  single_layer (e.Sub x y) = None
  single_layer (e.Mul x y) = None
  single_layer (e.Div x y) = None

  -- what an expression without an operator and a sign is
  abbrev pub single : Expr → Option Sort
  single = fold-Expr (Option Sort) single_layer

-- two single operands are compared as they are; where there is an operator or a sign, all are numbers
abbrev pub sides_right : Option Sort → Option Sort → Bool → Bool
sides_right None right numbers = numbers
sides_right (Some left) None numbers = numbers
sides_right (Some left) (Some right) numbers = compares_right left right

abbrev pub relation_right : Layout → Expr → Expr → Bool
relation_right layout left right =
    sides_right (single layout left) (single layout right) (all_numbers layout left && all_numbers layout right)
