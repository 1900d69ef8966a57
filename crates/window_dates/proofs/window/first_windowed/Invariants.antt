use Rattle.std.proofs.Common.{◌≡◌, length}
use Rattle.window_dates.specs.Windows as spec
use Rattle.window_dates.proofs.window.first_windowed.Given as goal

abbrev pub invariant-loop-rest : goal.invariant-loop-rest
invariant-loop-rest l = spec.first_windowed l.rest ≡ spec.first_windowed l.years

abbrev pub decreases-loop-rest : goal.decreases-loop-rest
decreases-loop-rest l = length l.rest
