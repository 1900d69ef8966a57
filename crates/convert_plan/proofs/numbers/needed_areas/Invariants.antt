use Rattle.std.proofs.Common.{◌≡◌, ◌++◌, length}
use Rattle.convert_plan.specs.Numbers as spec
use Rattle.convert_plan.proofs.numbers.needed_areas.Given as goal

abbrev pub invariant-loop-rest : goal.invariant-loop-rest
invariant-loop-rest l = l.needed ++ spec.needs_from l.index l.uses l.program l.rest ≡ spec.needs_from l.index l.uses 0 l.layouts

abbrev pub decreases-loop-rest : goal.decreases-loop-rest
decreases-loop-rest l = length l.rest
