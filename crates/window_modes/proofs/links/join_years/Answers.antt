use Rattle.window_modes.proofs.Joined.{Joins-two}
use Rattle.window_modes.proofs.links.join_years.Goals as goal

pub returns : goal.returns
returns c = Joins-two c.args.first c.args.second c.args.sets.now c.join.new.self c.join.ensures.long c.join.ensures.joined
