use Rattle.std.proofs.Common.{◌≡◌, ◌++◌, length}
use Rattle.std.specs.List.{concat}
use Rattle.run_lines.proofs.lines.add_parts.Given as goal

abbrev pub invariant-loop-rest : goal.invariant-loop-rest
invariant-loop-rest l = l.lines ++ concat l.rest ≡ l.fn.lines ++ concat l.parts

abbrev pub decreases-loop-rest : goal.decreases-loop-rest
decreases-loop-rest l = length l.rest
