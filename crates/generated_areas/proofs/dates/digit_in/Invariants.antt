use Rattle.std.proofs.Common.{◌≡◌, length}
use Rattle.generated_areas.specs.Dates as spec
use Rattle.generated_areas.proofs.dates.digit_in.Given as goal

abbrev pub invariant-loop-rest : goal.invariant-loop-rest
invariant-loop-rest l = spec.digit_from l.power l.span l.index l.rest ≡ spec.digit_from l.power l.span 0 l.powers

abbrev pub decreases-loop-rest : goal.decreases-loop-rest
decreases-loop-rest l = length l.rest
