use Rattle.std.proofs.Common.{◌≡◌, ◌++◌, length}
use Rattle.date_uses.specs.Entries as spec
use Rattle.date_uses.proofs.entries.add_ranges.Given as goal

abbrev pub invariant-loop-rest : goal.invariant-loop-rest
invariant-loop-rest l = l.uses ++ spec.ranges_uses l.layout l.spot l.number l.item l.rest ≡ l.fn.uses ++ spec.ranges_uses l.layout l.spot l.number l.item l.ranges

abbrev pub decreases-loop-rest : goal.decreases-loop-rest
decreases-loop-rest l = length l.rest
