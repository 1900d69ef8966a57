use Rattle.std.proofs.Common.{◌≡◌, ◌+◌, false, length}
use Rattle.fixed_format.specs.Loops.{closing_from}
use Rattle.fixed_format.proofs.runs.closing_by_halves.Given as goal

abbrev pub invariant-loop-left : goal.invariant-loop-left
invariant-loop-left l = (closing_from l.mark l.is_half l.count l.left ≡ closing_from l.mark false 0 l.rest) × (l.count + length l.left ≡ length l.rest)

abbrev pub decreases-loop-left : goal.decreases-loop-left
decreases-loop-left l = length l.left
