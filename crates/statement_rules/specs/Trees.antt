-- Arithmetic expressions as plain trees.
use Rattle.std.specs.Prelude.{Option, Some, None}
use Rattle.cobol_syntax.specs.declared.expr.Operand.{Operand}
use Rattle.cobol_syntax.specs.declared.expr.Expr.{Expr, Expr-F, fold-Expr}
use Rattle.cobol_syntax.specs.declared.expr.Expr.TheOpen as e

pub data Tree : Type 0 where
  Just : (operand : Operand) → Tree
  Negated : (inner : Tree) → Tree
  Sum : (left right : Tree) → Tree
  Difference : (left right : Tree) → Tree
  Product : (left right : Tree) → Tree
  Quotient : (left right : Tree) → Tree

abbrev pub tree_layer : Expr-F Tree → Tree
tree_layer (e.One x) = Just x
tree_layer (e.Minus t) = Negated t
tree_layer (e.Add s t) = Sum s t
tree_layer (e.Sub s t) = Difference s t
tree_layer (e.Mul s t) = Product s t
tree_layer (e.Div s t) = Quotient s t

abbrev pub tree_of : Expr → Tree
tree_of = fold-Expr Tree tree_layer

-- the operand that an expression without an operator or a sign is
abbrev pub single : Tree → Option Operand
single (Just x) = Some x
single (Negated t) = None
single (Sum s t) = None
single (Difference s t) = None
single (Product s t) = None
single (Quotient s t) = None
