use Rattle.std.proofs.Common.{◌≡◌, ◌+◌, ◌≤◌, false, length}
use Rattle.fixed_format.specs.Loops.{content_count_from}
use Rattle.fixed_format.proofs.scan.count_by_halves.Given as goal

abbrev pub invariant-loop-rest : goal.invariant-loop-rest
invariant-loop-rest l = (content_count_from l.mark l.is_half l.count l.rest ≡ content_count_from l.mark false 0 l.chars) × (l.count + length l.rest ≤ length l.chars)

abbrev pub decreases-loop-rest : goal.decreases-loop-rest
decreases-loop-rest l = length l.rest
