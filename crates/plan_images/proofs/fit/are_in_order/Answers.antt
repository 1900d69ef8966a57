use Rattle.std.proofs.Common.{arith}
use Rattle.plan_images.proofs.Fitting.{in_order, not_in_order}
use Rattle.plan_images.proofs.fit.are_in_order.Goals as goal

pub returns-then-not-ends_before : goal.returns-then-not-ends_before
returns-then-not-ends_before c = not_in_order c.args.modes.now c.loop-i.i _ _ c.ends_before.result (omega arith) (omega arith) c.ends_before.ensures c.if-not-ends_before.true

pub returns : goal.returns
returns c = in_order c.args.modes.now c.loop-i.i (omega arith) c.loop-i.invariant
