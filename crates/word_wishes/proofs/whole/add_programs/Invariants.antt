use Rattle.std.proofs.Common.{◌≡◌, ◌++◌, length}
use Rattle.std.specs.List.{AllByRecursion}
use Rattle.data_layout.specs.Index.{IsReady}
use Rattle.word_wishes.specs.Whole as spec
use Rattle.word_wishes.proofs.whole.add_programs.Given as goal

abbrev pub invariant-loop-programs_left : goal.invariant-loop-programs_left
invariant-loop-programs_left l =
    AllByRecursion IsReady l.layouts_left
    × (l.wishes ++ spec.programs_wishes l.index l.number l.programs_left l.layouts_left ≡ l.fn.wishes ++ spec.programs_wishes l.index l.first l.programs l.layouts)

abbrev pub decreases-loop-programs_left : goal.decreases-loop-programs_left
decreases-loop-programs_left l = length l.programs_left
