use Rattle.std.proofs.Common.{◌≡◌, ◌≤◌}
use Rattle.cobol_syntax.specs.declared.expr.Expr.{size-Expr}
use Rattle.cobol_syntax.specs.Chains.{operated}
use Rattle.cobol_syntax.proofs.expr.+expr_twin.Given as goal

abbrev pub invariant-ExprTwin::twin-loop-first : goal.invariant-ExprTwin::twin-loop-first
invariant-ExprTwin::twin-loop-first l = (size-Expr l.first ≤ size-Expr l.fn.self) × (operated l.terms l.first ≡ l.fn.self)
