use Rattle.std.proofs.Common.{◌≡◌, length}
use Rattle.comparison_limits.specs.Unlike as spec
use Rattle.comparison_limits.proofs.unlike.first_unlike.Given as goal

abbrev pub invariant-loop-rest : goal.invariant-loop-rest
invariant-loop-rest l = spec.first_unlike l.contrast l.rest l.others ≡ spec.first_unlike l.contrast l.years l.others

abbrev pub decreases-loop-rest : goal.decreases-loop-rest
decreases-loop-rest l = length l.rest
