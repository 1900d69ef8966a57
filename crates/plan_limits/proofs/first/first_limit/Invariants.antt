use Rattle.std.proofs.Common.{length}
use Rattle.plan_limits.proofs.Ranks.{TakenOff}
use Rattle.plan_limits.proofs.first.first_limit.Given as goal

abbrev pub invariant-loop-limit : goal.invariant-loop-limit
invariant-loop-limit l = TakenOff l.fn.limits l.rest.items l.first

abbrev pub decreases-loop-limit : goal.decreases-loop-limit
decreases-loop-limit l = length l.rest.items
