use Rattle.std.proofs.Common.{◌≡◌, length}
use Rattle.run_command.specs.Jobs as spec
use Rattle.run_command.proofs.job.names_in.Given as goal

abbrev pub invariant-loop-rest : goal.invariant-loop-rest
invariant-loop-rest l = spec.names_in l.rest l.job ≡ spec.names_in l.jobs l.job

abbrev pub decreases-loop-rest : goal.decreases-loop-rest
decreases-loop-rest l = length l.rest
