use Rattle.std.proofs.Common.{◌≡◌, ◌++◌, length}
use Rattle.std.specs.List.{AllByRecursion}
use Rattle.data_layout.specs.Index.{IsReady}
use Rattle.mode_links.specs.Whole as spec
use Rattle.mode_links.proofs.whole.add_programs.Given as goal

abbrev pub invariant-loop-programs_left : goal.invariant-loop-programs_left
invariant-loop-programs_left l =
    AllByRecursion IsReady l.layouts_left
    × (l.links ++ spec.programs_links l.labelling l.programs_left l.layouts_left ≡ l.fn.links ++ spec.programs_links l.labelling l.programs l.layouts)

abbrev pub decreases-loop-programs_left : goal.decreases-loop-programs_left
decreases-loop-programs_left l = length l.programs_left
