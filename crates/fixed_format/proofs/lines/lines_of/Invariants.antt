use Rattle.std.proofs.Common.{◌≡◌, ◌++◌, length}
use Rattle.fixed_format.specs.Columns.{lines}
use Rattle.fixed_format.proofs.lines.lines_of.Given as goal

abbrev pub invariant-loop-rest : goal.invariant-loop-rest
invariant-loop-rest l = l.found ++ lines l.rest ≡ lines l.text

abbrev pub decreases-loop-rest : goal.decreases-loop-rest
decreases-loop-rest l = length l.rest
