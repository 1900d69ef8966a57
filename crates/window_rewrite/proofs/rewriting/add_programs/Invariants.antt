use Rattle.std.proofs.Common.{length}
use Rattle.std.specs.List.{AllByRecursion}
use Rattle.data_layout.specs.Index.{IsReady}
use Rattle.window_rewrite.proofs.rewriting.add_programs.Given as goal

abbrev pub invariant-loop-programs_left : goal.invariant-loop-programs_left
invariant-loop-programs_left l = AllByRecursion IsReady l.layouts_left

abbrev pub decreases-loop-programs_left : goal.decreases-loop-programs_left
decreases-loop-programs_left l = length l.programs_left
