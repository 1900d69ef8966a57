use Rattle.std.proofs.Common.{◌≡◌, ◌++◌, length}
use Rattle.area_limits.specs.Whole as spec
use Rattle.area_limits.proofs.whole.add_area_limits.Given as goal

abbrev pub invariant-loop-programs_left : goal.invariant-loop-programs_left
invariant-loop-programs_left l =
    l.limits ++ spec.limits_from l.index l.uses l.sum l.number l.programs_left l.layouts_left ≡ l.fn.limits ++ spec.limits_from l.index l.uses 0 0 l.programs l.layouts

abbrev pub decreases-loop-programs_left : goal.decreases-loop-programs_left
decreases-loop-programs_left l = length l.programs_left
