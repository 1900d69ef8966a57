use Rattle.std.proofs.Common.{◌≡◌, ◌+◌, ◌≤◌, length}
use Rattle.cond_reader.specs.UnitFaults.{openings}
use Rattle.cond_reader.proofs.fault.openings.Given as goal

abbrev pub invariant-loop-kinds : goal.invariant-loop-kinds
invariant-loop-kinds l = (l.count + openings l.kinds ≡ openings l.initial.kinds) × (l.count + length l.kinds ≤ length l.initial.kinds)

abbrev pub decreases-loop-kinds : goal.decreases-loop-kinds
decreases-loop-kinds l = length l.kinds
