use Rattle.label_spread.proofs.Growth.{Adds-there, Adds-pushed}
use Rattle.label_spread.proofs.known.Known.insert.Goals as goal

pub returns-then-has : goal.returns-then-has
returns-then-has c = Adds-there _ c.args.fact (c.has.ensures.0 c.if-has.true)

pub returns-in_ok-push : goal.returns-in_ok-push
returns-in_ok-push c = Adds-pushed _ _ c.args.fact c.in_ok-push.ensures
