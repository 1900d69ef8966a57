use Rattle.std.proofs.Common.{◌≡◌, ◌++◌, length}
use Rattle.run_lines.specs.Lines.{end_lines}
use Rattle.run_lines.proofs.lines.add_ends.Given as goal

abbrev pub invariant-loop-left : goal.invariant-loop-left
invariant-loop-left l = l.lines ++ end_lines l.manifest l.programs l.left l.rest ≡ l.fn.lines ++ end_lines l.manifest l.programs l.numbers l.ends

abbrev pub decreases-loop-left : goal.decreases-loop-left
decreases-loop-left l = length l.left
