use Rattle.std.proofs.Common.{arith}
use Rattle.source_edit.proofs.Fronts.{at_front}
use Rattle.source_edit.proofs.Writing.{one_more}
use Rattle.source_edit.proofs.text.written.Goals as goal

pub loop-rest-preserved : goal.loop-rest-preserved
loop-rest-preserved c =
    one_more c.loop-rest.rest.now _ c.row-item.result c.loop-rest.out _ _ c.loop-rest.covered _ c.loop-rest.carry _
    (at_front c.loop-rest.rest.now c.row-item.result (omega arith) c.row-item.is)
    c.loop-rest.invariant c.in_ok-covered.ensures.count c.in_ok-covered.ensures.out c.carry_after-carry.ensures
