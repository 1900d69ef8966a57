use Rattle.std.proofs.Common.{◌≡◌, ◌<◌, ◌+◌, ◌^◌, length}
use Rattle.run_command.specs.Words.{with_digits}
use Rattle.run_command.proofs.word.value_of.Given as goal

abbrev pub invariant-loop-rest : goal.invariant-loop-rest
invariant-loop-rest l = (with_digits l.value l.rest ≡ with_digits 0 l.digits) × (l.done + length l.rest ≡ length l.digits) × (l.value < 10 ^ l.done)

abbrev pub decreases-loop-rest : goal.decreases-loop-rest
decreases-loop-rest l = length l.rest
