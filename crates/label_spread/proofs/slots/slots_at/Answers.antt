use Rattle.label_spread.proofs.Blocks.{in_range}
use Rattle.label_spread.proofs.slots.slots_at.Goals as goal

pub returns : goal.returns
returns c = λ rule at. in_range c.args.slots.now.keys _ c.args.place rule c.in_ok-found.ensures at
