use Rattle.std.proofs.Common.{◌≡◌, ◌++◌}
use Rattle.convert_plan.specs.Numbers as spec
use Rattle.convert_plan.proofs.numbers.add_numbers.Given as goal

abbrev pub invariant-loop-left : goal.invariant-loop-left
invariant-loop-left l = l.numbers ++ spec.count_from l.next l.left ≡ l.fn.numbers ++ spec.count_from l.first l.count

abbrev pub decreases-loop-left : goal.decreases-loop-left
decreases-loop-left l = l.left
