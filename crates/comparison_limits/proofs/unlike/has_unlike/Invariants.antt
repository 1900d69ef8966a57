use Rattle.std.proofs.Common.{◌≡◌, length}
use Rattle.comparison_limits.specs.Unlike as spec
use Rattle.comparison_limits.proofs.unlike.has_unlike.Given as goal

abbrev pub invariant-loop-rest : goal.invariant-loop-rest
invariant-loop-rest l = spec.has_unlike l.contrast l.pivot l.rest ≡ spec.has_unlike l.contrast l.pivot l.years

abbrev pub decreases-loop-rest : goal.decreases-loop-rest
decreases-loop-rest l = length l.rest
