use Rattle.std.proofs.Common.{◌≡◌, ◌++◌, length}
use Rattle.date_types.specs.Pictures as spec
use Rattle.date_types.proofs.pictures.add_all_pictured.Given as goal

abbrev pub invariant-loop-programs_left : goal.invariant-loop-programs_left
invariant-loop-programs_left l =
    l.pictured ++ spec.pictured l.programs_left l.layouts_left ≡ l.fn.pictured ++ spec.pictured l.programs l.layouts

abbrev pub decreases-loop-programs_left : goal.decreases-loop-programs_left
decreases-loop-programs_left l = length l.programs_left
