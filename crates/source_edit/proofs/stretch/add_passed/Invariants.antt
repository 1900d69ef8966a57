use Rattle.std.proofs.Common.{◌≡◌, ◌++◌, length}
use Rattle.source_edit.specs.Stretches.{passed}
use Rattle.source_edit.proofs.stretch.add_passed.Given as goal

abbrev pub invariant-loop-rest : goal.invariant-loop-rest
invariant-loop-rest l = l.out ++ passed l.rest ≡ l.initial.out ++ passed l.rows

abbrev pub decreases-loop-rest : goal.decreases-loop-rest
decreases-loop-rest l = length l.rest
