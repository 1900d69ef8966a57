use Rattle.std.proofs.Common.{◌≡◌, ◌++◌, length}
use Rattle.statement_limits.specs.Numerals as spec
use Rattle.statement_limits.proofs.numerals.add_all_mixed.Given as goal

abbrev pub invariant-loop-rest : goal.invariant-loop-rest
invariant-loop-rest l = l.limits ++ spec.all_mixed l.at l.rest ≡ l.fn.limits ++ spec.all_mixed l.at l.modes

abbrev pub decreases-loop-rest : goal.decreases-loop-rest
decreases-loop-rest l = length l.rest
