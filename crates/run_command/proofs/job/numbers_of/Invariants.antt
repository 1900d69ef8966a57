use Rattle.std.proofs.Common.{◌≡◌, length}
use Rattle.run_command.specs.Jobs as spec
use Rattle.run_command.proofs.JobLaws.{after}
use Rattle.run_command.proofs.job.numbers_of.Given as goal

abbrev pub invariant-loop-rest : goal.invariant-loop-rest
invariant-loop-rest l = after l.numbers (spec.numbers_of l.programs l.rest) ≡ spec.numbers_of l.programs l.names

abbrev pub decreases-loop-rest : goal.decreases-loop-rest
decreases-loop-rest l = length l.rest
