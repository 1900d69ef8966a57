use Rattle.std.proofs.Common.{◌≡◌, ◌++◌, length}
use Rattle.entry_limits.specs.Items as spec
use Rattle.entry_limits.proofs.items.add_shapes.Given as goal

abbrev pub invariant-loop-rest : goal.invariant-loop-rest
invariant-loop-rest l =
    l.limits ++ spec.shape_limits l.at l.item l.rest ≡ l.fn.limits ++ spec.shape_limits l.at l.item l.modes

abbrev pub decreases-loop-rest : goal.decreases-loop-rest
decreases-loop-rest l = length l.rest
