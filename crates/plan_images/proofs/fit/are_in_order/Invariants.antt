use Rattle.plan_images.proofs.Fitting.{AreInRow}
use Rattle.plan_images.proofs.fit.are_in_order.Given as goal

abbrev pub invariant-loop-i : goal.invariant-loop-i
invariant-loop-i l = AreInRow l.modes l.i
