use Rattle.std.proofs.Common.{◌≡◌, ◌++◌, map, length}
use Rattle.convert_plan.specs.Numbers as spec
use Rattle.convert_plan.proofs.numbers.record_areas.Given as goal

abbrev pub invariant-loop-rest : goal.invariant-loop-rest
invariant-loop-rest l = l.areas ++ map spec.record_area l.rest ≡ map spec.record_area l.files

abbrev pub decreases-loop-rest : goal.decreases-loop-rest
decreases-loop-rest l = length l.rest
