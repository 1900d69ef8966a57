use Rattle.std.proofs.Common.{◌≡◌, ◌++◌, length}
use Rattle.source_edit.specs.Stretches.{written}
use Rattle.source_edit.proofs.text.written.Given as goal

abbrev pub invariant-loop-rest : goal.invariant-loop-rest
invariant-loop-rest l = l.out ++ written l.covered l.carry l.rest ≡ written 0 0 l.rows

abbrev pub decreases-loop-rest : goal.decreases-loop-rest
decreases-loop-rest l = length l.rest
