use Rattle.std.proofs.Common.{◌-◌, ◌^◌}
use Rattle.year_labels.specs.Derivation.{FollowsByOne}
use Rattle.label_spread.proofs.Least.{Taken}
use Rattle.label_spread.proofs.closure.close.Given as goal

abbrev pub invariant-loop-fact : goal.invariant-loop-fact
invariant-loop-fact l = Taken (FollowsByOne l.rules) l.fn.known l.known l.next

abbrev pub decreases-loop-fact : goal.decreases-loop-fact
decreases-loop-fact l = 2 ^ 64 - l.next
