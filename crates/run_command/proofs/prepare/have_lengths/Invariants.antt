use Rattle.std.proofs.Common.{◌<◌, length, All}
use Rattle.data_layout.specs.declared.portfolio.FileUse.{FileUse}
use Rattle.run_command.proofs.prepare.have_lengths.Given as goal

abbrev pub invariant-loop-rest : goal.invariant-loop-rest
invariant-loop-rest l = All (λ (f : FileUse). 0 < f.length) l.rest → All (λ (f : FileUse). 0 < f.length) l.files

abbrev pub decreases-loop-rest : goal.decreases-loop-rest
decreases-loop-rest l = length l.rest
