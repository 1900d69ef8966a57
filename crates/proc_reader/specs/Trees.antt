-- How trees are built from what is read.
use Rattle.std.specs.Prelude.{ℕ, ◌+◌, List, [], ◌∷◌, Option, Some, None}
use Rattle.cobol_syntax.specs.declared.expr.Operand.{Operand}
use Rattle.cobol_syntax.specs.declared.expr.Expr.{Expr}
use Rattle.cobol_syntax.specs.declared.expr.Expr.TheVariants as e
use Rattle.cobol_syntax.specs.declared.cond.Rel.TheVariants as rel
use Rattle.cobol_syntax.specs.declared.cond.Condition.{Condition, roll-Condition, out-Condition}
use Rattle.cobol_syntax.specs.declared.cond.CondForm.{CondForm}
use Rattle.cobol_syntax.specs.declared.cond.CondForm.TheVariants as condition
use Rattle.cobol_syntax.specs.declared.statement.Form.{Form}
use Rattle.cobol_syntax.specs.declared.statement.Branch.{Branch, roll-Branch}
use Rattle.cobol_syntax.specs.declared.statement.Statement.{Statement, roll-Statement}
use Rattle.proc_reader.specs.declared.tree.Joining.{Joining}
use Rattle.proc_reader.specs.declared.tree.Joining.TheVariants as by

abbrev pub joined_expr : Joining → Expr → Expr → Expr
joined_expr by.Alone value operand = value
joined_expr by.Add value operand = e.Add value operand
joined_expr by.Subtract value operand = e.Sub operand value
joined_expr by.Multiply value operand = e.Mul value operand
joined_expr by.Divide value operand = e.Div operand value
joined_expr by.DivideBy value operand = e.Div value operand

-- the expression of a value and an operand
unfoldable pub joined : Joining → Expr → Operand → Expr
joined joining value operand = joined_expr joining value (e.One operand)

unfoldable pub condition_of : ℕ → ℕ → CondForm → Condition
condition_of i j f = roll-Condition (record { at = i; end = j; form = f })

-- that a value equals an operand
unfoldable pub equality : Expr → Operand → ℕ → ℕ → Condition
equality subject operand i j = roll-Condition (record { at = i; end = j; form = condition.Relation subject rel.Equal (e.One operand) })

-- that one of two holds
unfoldable pub either : Condition → Condition → Condition
either left right = roll-Condition (record { at = (out-Condition left).at; end = (out-Condition right).end; form = condition.Or left right })

unfoldable pub statement : ℕ → ℕ → ℕ → ℕ → Form → Statement
statement program number i j f = roll-Statement (record { id = record { program = program; number = number }; at = i; end = j; form = f })

abbrev pub list_of : Option (List Statement) → List Statement
list_of None = []
list_of (Some list) = list

abbrev pub both_lists : Option (List Statement) → Option (List Statement) → Branch
both_lists first second = roll-Branch (record { yes = list_of first; no = list_of second })

-- the branch of two lists, if one of them is written
unfoldable pub branch : Option (List Statement) → Option (List Statement) → Option Branch
branch None None = None
branch None (Some second) = Some (both_lists None (Some second))
branch (Some first) second = Some (both_lists (Some first) second)

-- statements of one text statement, numbered one after the other
abbrev pub numbered : ℕ → ℕ → ℕ → ℕ → List Form → List Statement
numbered program i j number [] = []
numbered program i j number (f ∷ fs) = statement program number i j f ∷ numbered program i j (number + 1) fs
