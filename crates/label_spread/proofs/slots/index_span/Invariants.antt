use Rattle.std.proofs.Common.{◌/◌}
use Rattle.label_spread.proofs.Blocks.{SlotsBelow}
use Rattle.label_spread.proofs.slots.index_span.Given as goal

abbrev pub invariant-loop-block : goal.invariant-loop-block
invariant-loop-block l = SlotsBelow l.span l.rule (l.span.offset / 64) l.fn.slots.keys l.slots.keys l.block
