use Rattle.std.proofs.Common.{◌≡◌, ◌++◌, length}
use Rattle.date_views.specs.Views as spec
use Rattle.date_views.proofs.view.decimals.Given as goal

abbrev pub invariant-loop-rest : goal.invariant-loop-rest
invariant-loop-rest l = l.decimals ++ spec.decimals l.left l.rest ≡ spec.decimals l.digits l.places

abbrev pub decreases-loop-rest : goal.decreases-loop-rest
decreases-loop-rest l = length l.rest
