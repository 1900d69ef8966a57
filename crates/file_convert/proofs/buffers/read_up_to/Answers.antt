use Rattle.std.proofs.Common.{arith}
use Rattle.file_convert.proofs.ReadLemmas.{read_into_front}
use Rattle.file_convert.proofs.buffers.read_up_to.Goals as goal

pub returns-clause-bytes : goal.returns-clause-bytes
returns-clause-bytes g c =
    read_into_front (g.S.Shelf.told c.args.shelf.now) c.args.name.now c.args.at c.args.end c.min-room.result c.in_ok-count.count c.args.into.now c.read.new.into
    (omega (arith, c.min-room.ensures)) c.in_ok-count.ensures.bytes c.in_ok-count.ensures.at_most
