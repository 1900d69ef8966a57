use Rattle.std.proofs.Common.{◌≡◌, ◌++◌, length}
use Rattle.entry_limits.specs.Covering as spec
use Rattle.entry_limits.proofs.covering.is_in_occurrence.Given as goal

abbrev pub invariant-loop-rest : goal.invariant-loop-rest
invariant-loop-rest l =
    spec.is_in_occurrence l.rest l.bytes l.left ≡ spec.is_in_occurrence l.steps l.bytes l.behind

abbrev pub decreases-loop-rest : goal.decreases-loop-rest
decreases-loop-rest l = length l.rest
