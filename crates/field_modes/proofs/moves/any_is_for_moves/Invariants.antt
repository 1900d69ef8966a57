use Rattle.std.proofs.Common.{length}
use Rattle.field_modes.proofs.moves.any_is_for_moves.Given as goal

abbrev pub decreases-loop-rest : goal.decreases-loop-rest
decreases-loop-rest l = length l.rest
