use Rattle.std.proofs.Common.{◌+◌, ◌≤◌, length, sym, ap, arith}
use Rattle.year_image.specs.Piece.{width}
use Rattle.file_convert.specs.Cuts.{piece_of}
use Rattle.file_convert.proofs.UntameLemmas.{first_inside}
use Rattle.file_convert.proofs.buffers.Buffers.read_next.Goals as goal

pub untame-requires-clause-inside : goal.untame-requires-clause-inside
untame-requires-clause-inside g c =
    let cuts = c.args.cuts.now in
    let inside : c.in-Some.cut.offset + width (piece_of c.in-Some.cut) ≤ cuts.length = first_inside 0 cuts.length cuts.list c.deref.result.now c.in-Some.cut c.requires.order.2 (sym c.in-Some.ensures.found) in
    let same = ap length c.deref.ensures.value in
    omega (arith, inside, same, c.deref.ensures.len, c.requires.room.0, c.read_up_to.auto.into)
