use Rattle.std.proofs.Common.{arith}
use Rattle.source_edit.proofs.Fronts.{at_front}
use Rattle.source_edit.proofs.Programs.{one_more_at, at_end_at}
use Rattle.source_edit.proofs.expansion.program_clashes.Goals as goal

pub loop-rest-preserved : goal.loop-rest-preserved
loop-rest-preserved c =
    one_more_at _ _ _ _ _ _ _ _ _ _ _ _ _ _ _ c.loop-rest.invariant
    (at_front c.loop-rest.rest.now c.source-item.result (omega arith) c.source-item.is)
    (at_front c.loop-rest.others.now c.other-item.result (omega arith) c.other-item.is)
    c.in_ok-program.ensures c.in_ok-add_program_clash.ensures

pub returns : goal.returns
returns c = at_end_at _ _ _ _ _ _ _ _ _ c.loop-rest.invariant c.in_default.len_below
