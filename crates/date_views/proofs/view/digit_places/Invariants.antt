use Rattle.std.proofs.Common.{◌≡◌, ◌++◌, length}
use Rattle.date_views.specs.Views as spec
use Rattle.date_views.proofs.view.digit_places.Given as goal

abbrev pub invariant-loop-rest : goal.invariant-loop-rest
invariant-loop-rest l = l.places ++ spec.digit_places l.rest ≡ spec.digit_places l.runs

abbrev pub decreases-loop-rest : goal.decreases-loop-rest
decreases-loop-rest l = length l.rest
