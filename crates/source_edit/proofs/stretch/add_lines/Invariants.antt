use Rattle.std.proofs.Common.{◌≡◌, ◌++◌, length, flat_map}
use Rattle.source_edit.specs.Stretches.{ended}
use Rattle.source_edit.proofs.stretch.add_lines.Given as goal

abbrev pub invariant-loop-rest : goal.invariant-loop-rest
invariant-loop-rest l = l.out ++ flat_map (ended l.end) l.rest ≡ l.initial.out ++ flat_map (ended l.end) l.lines

abbrev pub decreases-loop-rest : goal.decreases-loop-rest
decreases-loop-rest l = length l.rest
