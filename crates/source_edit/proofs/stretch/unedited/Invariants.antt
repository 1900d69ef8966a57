use Rattle.std.proofs.Common.{◌≡◌, ◌+◌, length}
use Rattle.fixed_format.specs.Columns.{leading}
use Rattle.source_edit.specs.Rows.{is_unedited}
use Rattle.source_edit.proofs.stretch.unedited.Given as goal

abbrev pub invariant-loop-rest : goal.invariant-loop-rest
invariant-loop-rest l = (l.count + leading is_unedited l.rest ≡ leading is_unedited l.words) × (l.count + length l.rest ≡ length l.words)

abbrev pub decreases-loop-rest : goal.decreases-loop-rest
decreases-loop-rest l = length l.rest
