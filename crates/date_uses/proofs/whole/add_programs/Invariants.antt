use Rattle.std.proofs.Common.{◌≡◌, ◌++◌, length}
use Rattle.std.specs.List.{AllByRecursion}
use Rattle.data_layout.specs.Index.{IsReady}
use Rattle.date_uses.specs.Uses as spec
use Rattle.date_uses.proofs.whole.add_programs.Given as goal

abbrev pub invariant-loop-programs_left : goal.invariant-loop-programs_left
invariant-loop-programs_left l =
    AllByRecursion IsReady l.layouts_left
    × (l.uses ++ spec.programs_uses l.labelling l.number l.programs_left l.layouts_left ≡ l.fn.uses ++ spec.programs_uses l.labelling l.first l.programs l.layouts)

abbrev pub decreases-loop-programs_left : goal.decreases-loop-programs_left
decreases-loop-programs_left l = length l.programs_left
