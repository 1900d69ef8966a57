use Rattle.std.proofs.Common.{◌≡◌, ◌++◌, length}
use Rattle.comparison_limits.specs.Orders as spec
use Rattle.comparison_limits.proofs.orders.add_runs.Given as goal

abbrev pub invariant-loop-rest : goal.invariant-loop-rest
invariant-loop-rest l = l.limits ++ spec.runs_limits l.at l.rest ≡ l.fn.limits ++ spec.runs_limits l.at l.years

abbrev pub decreases-loop-rest : goal.decreases-loop-rest
decreases-loop-rest l = length l.rest
