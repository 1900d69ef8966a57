use Rattle.std.proofs.Common.{◌≡◌, ◌+◌, length}
use Rattle.statement_limits.specs.Numerals as spec
use Rattle.statement_limits.proofs.numerals.digits_after.Given as goal

abbrev pub invariant-loop-rest : goal.invariant-loop-rest
invariant-loop-rest l = l.digits + spec.centuries l.rest ≡ l.length + spec.centuries l.modes

abbrev pub decreases-loop-rest : goal.decreases-loop-rest
decreases-loop-rest l = length l.rest
