use Rattle.std.proofs.Common.{◌≡◌, length}
use Rattle.window_dates.specs.Literals as spec
use Rattle.window_dates.proofs.literal.are_digits.Given as goal

abbrev pub invariant-loop-rest : goal.invariant-loop-rest
invariant-loop-rest l = spec.are_digits l.rest ≡ spec.are_digits l.bytes

abbrev pub decreases-loop-rest : goal.decreases-loop-rest
decreases-loop-rest l = length l.rest
