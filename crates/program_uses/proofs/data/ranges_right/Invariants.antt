use Rattle.std.proofs.Common.{◌≡◌, drop, true}
use Rattle.program_uses.specs.Data as spec
use Rattle.program_uses.proofs.data.ranges_right.Given as goal

abbrev pub invariant-loop-range : goal.invariant-loop-range
invariant-loop-range l = spec.ranges_right l.layout l.item l.right (drop l.range-index l.ranges) ≡ spec.ranges_right l.layout l.item true l.ranges
