use Rattle.std.proofs.Common.{◌≤◌}
use Rattle.cobol_syntax.specs.declared.expr.Expr.{size-Expr}
use Rattle.cobol_syntax.proofs.expr.Expr.+drop.Given as goal

abbrev pub invariant-loop-self : goal.invariant-loop-self
invariant-loop-self l = size-Expr l.self ≤ size-Expr l.fn.self
