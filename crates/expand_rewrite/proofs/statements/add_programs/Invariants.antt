use Rattle.std.proofs.Common.{◌≡◌, ◌++◌, length}
use Rattle.std.specs.List.{AllByRecursion}
use Rattle.data_layout.specs.Index.{IsReady}
use Rattle.expand_rewrite.specs.Expanded.{scene}
use Rattle.expand_rewrite.specs.Statements as spec
use Rattle.expand_rewrite.proofs.statements.add_programs.Given as goal

abbrev pub invariant-loop-programs_left : goal.invariant-loop-programs_left
invariant-loop-programs_left l =
    AllByRecursion IsReady l.layouts_left
    × (l.edits ++ spec.programs_edits (scene l.plan l.words) l.number l.programs_left l.layouts_left ≡ l.fn.edits ++ spec.programs_edits (scene l.plan l.words) l.first l.programs l.layouts)

abbrev pub decreases-loop-programs_left : goal.decreases-loop-programs_left
decreases-loop-programs_left l = length l.programs_left
