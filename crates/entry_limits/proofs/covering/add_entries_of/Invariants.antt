use Rattle.std.proofs.Common.{◌≡◌, ◌++◌, length}
use Rattle.entry_limits.specs.Covering as spec
use Rattle.entry_limits.proofs.covering.add_entries_of.Given as goal

abbrev pub invariant-loop-programs_left : goal.invariant-loop-programs_left
invariant-loop-programs_left l =
    l.entries ++ spec.entries_of l.area l.programs_left l.layouts_left ≡ l.fn.entries ++ spec.entries_of l.area l.programs l.layouts

abbrev pub decreases-loop-programs_left : goal.decreases-loop-programs_left
decreases-loop-programs_left l = length l.programs_left
