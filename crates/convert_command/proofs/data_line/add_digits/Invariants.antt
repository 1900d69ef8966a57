use Rattle.std.proofs.Common.{length}
use Rattle.convert_command.proofs.data_line.add_digits.Given as goal

abbrev pub decreases-loop-rest : goal.decreases-loop-rest
decreases-loop-rest l = length l.rest
