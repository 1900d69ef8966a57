use Rattle.source_edit.proofs.Reaching.{at_end}
use Rattle.source_edit.proofs.reach.reach.Goals as goal

pub returns : goal.returns
returns c = at_end _ _ _ _ c.args.carry c.args.rows.now c.loop-rest.invariant.0 c.in_default.len_below
