use Rattle.std.proofs.Common.{◌≡◌, ◌++◌, length}
use Rattle.std.specs.List.{flat_map}
use Rattle.convert_plan.specs.Groups as spec
use Rattle.convert_plan.proofs.groups.spans_of.Given as goal

abbrev pub invariant-loop-rest : goal.invariant-loop-rest
invariant-loop-rest l = l.spans ++ flat_map (spec.span_of l.layouts) l.rest ≡ flat_map (spec.span_of l.layouts) l.items

abbrev pub decreases-loop-rest : goal.decreases-loop-rest
decreases-loop-rest l = length l.rest
