use Rattle.std.proofs.Common.{◌≡◌, length}
use Rattle.run_command.specs.Jobs.{number_from}
use Rattle.run_command.proofs.job.number_of.Given as goal

abbrev pub invariant-loop-rest : goal.invariant-loop-rest
invariant-loop-rest l = number_from l.number l.rest l.name ≡ number_from 0 l.programs l.name

abbrev pub decreases-loop-rest : goal.decreases-loop-rest
decreases-loop-rest l = length l.rest
