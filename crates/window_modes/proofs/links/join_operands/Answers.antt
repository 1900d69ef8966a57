use Rattle.window_modes.proofs.Found.{operands}
use Rattle.window_modes.proofs.links.join_operands.Goals as goal

pub returns : goal.returns
returns c = operands c.args.years.now c.args.a.now c.args.b.now c.args.c.now _ _ _ _ c.in_ok-join_aligned.ensures c.in_ok-join_aligned-2.ensures c.in_ok-join_aligned-3.ensures
