use Rattle.std.proofs.Common.{◌≡◌, ◌++◌, length}
use Rattle.literal_images.specs.Limits as spec
use Rattle.literal_images.proofs.limits.add_literal_limits.Given as goal

abbrev pub invariant-loop-rest : goal.invariant-loop-rest
invariant-loop-rest l = l.limits ++ spec.literal_limits l.programs l.index l.rest ≡ l.fn.limits ++ spec.literal_limits l.programs l.index l.uses

abbrev pub decreases-loop-rest : goal.decreases-loop-rest
decreases-loop-rest l = length l.rest
