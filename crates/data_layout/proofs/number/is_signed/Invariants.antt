use Rattle.std.proofs.Common.{◌≡◌, length}
use Rattle.data_layout.specs.Number as number
use Rattle.data_layout.proofs.number.is_signed.Given as goal

abbrev pub invariant-loop-rest : goal.invariant-loop-rest
invariant-loop-rest l = number.is_signed l.rest ≡ number.is_signed l.runs

abbrev pub decreases-loop-rest : goal.decreases-loop-rest
decreases-loop-rest l = length l.rest
