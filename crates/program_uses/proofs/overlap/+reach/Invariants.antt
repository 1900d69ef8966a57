use Rattle.std.proofs.Common.{length}
use Rattle.program_uses.proofs.overlap.+reach.Given as goal

abbrev pub decreases-reach : goal.decreases-reach
decreases-reach l = length l.steps.now
