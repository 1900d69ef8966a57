use Rattle.std.proofs.Common.{◌≡◌, ◌++◌, length}
use Rattle.source_edit.specs.Rows.{new_of_rows}
use Rattle.source_edit.proofs.stretch.add_new_of_rows.Given as goal

abbrev pub invariant-loop-rest : goal.invariant-loop-rest
invariant-loop-rest l = l.into ++ new_of_rows l.rest ≡ l.initial.into ++ new_of_rows l.joined

abbrev pub decreases-loop-rest : goal.decreases-loop-rest
decreases-loop-rest l = length l.rest
