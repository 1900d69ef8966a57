use Rattle.std.proofs.Common.{◌≡◌, length}
use Rattle.cobol_syntax.specs.Chains.{operated}
use Rattle.cobol_syntax.proofs.expr.operated.Given as goal

abbrev pub invariant-loop-term : goal.invariant-loop-term
invariant-loop-term l = operated l.fn.terms l.fn.first ≡ operated l.terms.items l.first

abbrev pub decreases-loop-term : goal.decreases-loop-term
decreases-loop-term l = length l.terms.items
