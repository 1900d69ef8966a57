use Rattle.std.proofs.Common.{◌≡◌, ◌+◌, length}
use Rattle.fixed_format.specs.Columns.{leading, is_space, blanks}
use Rattle.source_edit.proofs.line.blanks.Given as goal

abbrev pub invariant-loop-rest : goal.invariant-loop-rest
invariant-loop-rest l = (l.count + leading is_space l.rest ≡ blanks l.cells) × (l.count + length l.rest ≡ length l.cells)

abbrev pub decreases-loop-rest : goal.decreases-loop-rest
decreases-loop-rest l = length l.rest
