use Rattle.window_modes.proofs.Joined.{joined_where}
use Rattle.window_modes.proofs.links.join_two.Goals as goal

pub returns-then-digit-other : goal.returns-then-digit-other
returns-then-digit-other c = joined_where c.args.digit.power c.args.other.power c.args.digit.year c.args.other.year c.args.sets.now c.join.new.self c.if-digit-other.true c.join.ensures.long c.join.ensures.joined
