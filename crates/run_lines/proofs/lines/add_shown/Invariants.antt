use Rattle.std.proofs.Common.{◌≡◌, ◌++◌, length}
use Rattle.run_lines.specs.Lines.{shown_lines}
use Rattle.run_lines.proofs.lines.add_shown.Given as goal

abbrev pub invariant-loop-rest : goal.invariant-loop-rest
invariant-loop-rest l = l.lines ++ shown_lines l.rest ≡ l.fn.lines ++ shown_lines l.shown

abbrev pub decreases-loop-rest : goal.decreases-loop-rest
decreases-loop-rest l = length l.rest
