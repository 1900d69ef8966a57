use Rattle.std.proofs.Common.{◌≡◌, ◌+◌, length}
use Rattle.source_edit.proofs.Reaching.{reach_from}
use Rattle.source_edit.proofs.reach.reach.Given as goal

abbrev pub invariant-loop-rest : goal.invariant-loop-rest
invariant-loop-rest l = (reach_from l.seen l.last l.carry l.rest ≡ reach_from 0 0 l.fn.carry l.rows) × (l.seen + length l.rest ≡ length l.rows)

abbrev pub decreases-loop-rest : goal.decreases-loop-rest
decreases-loop-rest l = length l.rest
