use Rattle.std.proofs.Common.{◌≡◌, ◌++◌, length}
use Rattle.convert_plan.specs.Groups as spec
use Rattle.convert_plan.proofs.groups.groups_of.Given as goal

abbrev pub invariant-loop-rest : goal.invariant-loop-rest
invariant-loop-rest l = l.groups ++ spec.groups_of l.layouts l.rest ≡ spec.groups_of l.layouts l.windows

abbrev pub decreases-loop-rest : goal.decreases-loop-rest
decreases-loop-rest l = length l.rest
