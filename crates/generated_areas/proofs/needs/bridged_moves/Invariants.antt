use Rattle.std.proofs.Common.{◌≡◌, ◌++◌, length}
use Rattle.generated_areas.specs.Needs as spec
use Rattle.generated_areas.proofs.needs.bridged_moves.Given as goal

abbrev pub invariant-loop-rest : goal.invariant-loop-rest
invariant-loop-rest l = l.moves ++ spec.bridged_moves l.index l.program l.rest ≡ spec.bridged_moves l.index l.program l.uses

abbrev pub decreases-loop-rest : goal.decreases-loop-rest
decreases-loop-rest l = length l.rest
