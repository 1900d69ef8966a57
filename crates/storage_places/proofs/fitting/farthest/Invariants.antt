use Rattle.std.proofs.Common.{◌≡◌, ◌+◌, length}
use Rattle.storage_places.specs.Fits.{farthest}
use Rattle.storage_places.proofs.fitting.farthest.Given as goal

abbrev pub invariant-loop-rest : goal.invariant-loop-rest
invariant-loop-rest l = farthest l.fn.steps ≡ l.behind + farthest l.rest

abbrev pub decreases-loop-rest : goal.decreases-loop-rest
decreases-loop-rest l = length l.rest
