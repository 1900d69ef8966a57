use Rattle.std.proofs.Common.{◌≡◌, ◌+◌, length}
use Rattle.source_edit.specs.Clashes.{same_count}
use Rattle.source_edit.proofs.clash.same_count.Given as goal

abbrev pub invariant-loop-left : goal.invariant-loop-left
invariant-loop-left l = (l.count + same_count l.left l.right ≡ same_count l.first l.second) × (l.count + length l.left ≡ length l.first)

abbrev pub decreases-loop-left : goal.decreases-loop-left
decreases-loop-left l = length l.left
