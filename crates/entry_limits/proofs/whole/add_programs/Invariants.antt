use Rattle.std.proofs.Common.{◌≡◌, ◌++◌, length}
use Rattle.entry_limits.specs.Whole as spec
use Rattle.entry_limits.proofs.whole.add_programs.Given as goal

abbrev pub invariant-loop-programs_left : goal.invariant-loop-programs_left
invariant-loop-programs_left l =
    l.limits ++ spec.programs_limits l.index l.programs_left l.layouts_left ≡ l.fn.limits ++ spec.programs_limits l.index l.programs l.layouts

abbrev pub decreases-loop-programs_left : goal.decreases-loop-programs_left
decreases-loop-programs_left l = length l.programs_left
