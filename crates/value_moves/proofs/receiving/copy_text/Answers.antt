use Rattle.std.proofs.Common.{length, arith}
use Rattle.value_moves.proofs.CopyLaws.{copy_more}
use Rattle.value_moves.proofs.receiving.copy_text.Goals as goal

pub loop-i-preserved : goal.loop-i-preserved
loop-i-preserved c =
    copy_more c.loop-i.into c.args.from.now (length c.args.into.now) c.loop-i.i c.byte_at.result (omega arith) (omega arith) c.byte_at.ensures c.loop-i.invariant
