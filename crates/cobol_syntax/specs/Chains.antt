-- Chains in trees: of IF, as EVALUATE makes them, where each IF stands alone in the ELSE of the one before, and
-- of first operands, as in a sum of many terms.
use Rattle.std.specs.Prelude.{List, [], ◌∷◌}
use Rattle.cobol_syntax.specs.declared.expr.Expr.{Expr}
use Rattle.cobol_syntax.specs.declared.expr.Expr.TheVariants as expr
use Rattle.cobol_syntax.specs.declared.expr.Term.{Term}
use Rattle.cobol_syntax.specs.declared.expr.Term.TheVariants as term
use Rattle.cobol_syntax.specs.declared.cond.Condition.{Condition, roll-Condition}
use Rattle.cobol_syntax.specs.declared.cond.CondForm.TheVariants as condition
use Rattle.cobol_syntax.specs.declared.cond.Joint.{Joint}
use Rattle.cobol_syntax.specs.declared.cond.Joint.TheVariants as joint
use Rattle.cobol_syntax.specs.declared.statement.Link.{Link}
use Rattle.cobol_syntax.specs.declared.statement.Form.TheVariants as form
use Rattle.cobol_syntax.specs.declared.statement.Statement.{Statement, roll-Statement}

-- the IF of a link, with the statements of its ELSE
abbrev pub linked : Link → List Statement → Statement
linked link other = roll-Statement (record { id = link.id; at = link.at; end = link.end; form = form.If link.test link.yes other })

-- the IF of all links, and the statements of the last ELSE
abbrev pub chain : List Link → List Statement → List Statement
chain [] rest = rest
chain (link ∷ links) rest = linked link (chain links rest) ∷ []

-- an operand, and the operator and second operand behind it
abbrev pub operation : Term → Expr → Expr
operation (term.Add right) first = expr.Add first right
operation (term.Sub right) first = expr.Sub first right
operation (term.Mul right) first = expr.Mul first right
operation (term.Div right) first = expr.Div first right

-- the first operand of all, and the terms behind it, the last one first
abbrev pub operated : List Term → Expr → Expr
operated [] first = first
operated (term ∷ terms) first = operation term (operated terms first)

-- a condition, and AND or OR and the second condition behind it
abbrev pub junction : Joint → Condition → Condition
junction (joint.And i j right) first = roll-Condition (record { at = i; end = j; form = condition.And first right })
junction (joint.Or i j right) first = roll-Condition (record { at = i; end = j; form = condition.Or first right })

-- the first condition of all, and those behind it, the last one first
abbrev pub joined : List Joint → Condition → Condition
joined [] first = first
joined (joint ∷ joints) first = junction joint (joined joints first)
