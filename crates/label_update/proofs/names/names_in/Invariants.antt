use Rattle.std.proofs.Common.{◌≡◌, ◌++◌, length}
use Rattle.label_update.specs.Names as spec
use Rattle.label_update.proofs.names.names_in.Given as goal

abbrev pub invariant-loop-programs_left : goal.invariant-loop-programs_left
invariant-loop-programs_left l = l.names ++ spec.names_in l.programs_left l.layouts_left ≡ spec.names_in l.fn.programs l.fn.layouts

abbrev pub decreases-loop-programs_left : goal.decreases-loop-programs_left
decreases-loop-programs_left l = length l.programs_left
