use Rattle.std.proofs.Common.{◌≡◌, ◌+◌, ◌++◌, length, take, drop}
use Rattle.year_image.specs.Piece.{grown_size}
use Rattle.year_image.specs.Image.{image}
use Rattle.file_convert.specs.Cuts.{pieces, pieces_from, IsInOrderFrom}
use Rattle.file_convert.proofs.record.write_image.Given as goal

abbrev pub invariant-loop-cut : goal.invariant-loop-cut
invariant-loop-cut l = record {
  order : IsInOrderFrom l.from l.cuts.length (drop l.cut-index l.cut-items);
  room : l.to + grown_size (pieces_from l.from l.cuts.length (drop l.cut-index l.cut-items)) ≡ length l.into;
  written : take l.to l.into ++ image 48 (pieces_from l.from l.cuts.length (drop l.cut-index l.cut-items)) (drop l.from l.source) ≡ image 48 (pieces l.cuts) l.source;
}
