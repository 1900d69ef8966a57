use Rattle.std.proofs.Common.{length}
use Rattle.field_modes.proofs.moves.add_all_written.Given as goal

abbrev pub decreases-loop-rest : goal.decreases-loop-rest
decreases-loop-rest l = length l.rest
