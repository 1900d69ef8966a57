use Rattle.std.proofs.Common.{◌≡◌, ◌++◌, length}
use Rattle.convert_plan.specs.Numbers as spec
use Rattle.convert_plan.proofs.numbers.area_numbers.Given as goal

abbrev pub invariant-loop-layouts_left : goal.invariant-loop-layouts_left
invariant-loop-layouts_left l = l.numbers ++ spec.numbers_from l.next l.layouts_left l.needed_left ≡ spec.numbers_from 0 l.layouts l.needed

abbrev pub decreases-loop-layouts_left : goal.decreases-loop-layouts_left
decreases-loop-layouts_left l = length l.layouts_left
