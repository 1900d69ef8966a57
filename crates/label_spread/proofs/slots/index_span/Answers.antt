use Rattle.std.proofs.Common.{arith}
use Rattle.label_spread.proofs.Blocks.{SlotsBelow-more, SlotsBelow-all}
use Rattle.label_spread.proofs.slots.index_span.Goals as goal

pub loop-block-preserved : goal.loop-block-preserved
loop-block-preserved c =
    SlotsBelow-more c.args.span c.args.rule _ _ _ _ c.loop-block.block c.loop-block.invariant c.in_ok-insert_slot.ensures.there c.in_ok-insert_slot.ensures.kept

pub returns : goal.returns
returns c = SlotsBelow-all c.args.span c.args.rule _ _ c.loop-block.block (omega arith) c.loop-block.invariant
