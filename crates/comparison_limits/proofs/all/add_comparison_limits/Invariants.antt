use Rattle.std.proofs.Common.{◌≡◌, ◌++◌, length}
use Rattle.comparison_limits.specs.Limits as spec
use Rattle.comparison_limits.proofs.all.add_comparison_limits.Given as goal

abbrev pub invariant-loop-rest : goal.invariant-loop-rest
invariant-loop-rest l = l.limits ++ spec.comparison_limits l.programs l.index l.rest ≡ l.fn.limits ++ spec.comparison_limits l.programs l.index l.uses

abbrev pub decreases-loop-rest : goal.decreases-loop-rest
decreases-loop-rest l = length l.rest
