use Rattle.std.proofs.Common.{◌≡◌, ◌*◌, ◌≤◌, length, IfSome}
use Rattle.std.specs.Option.{option_map}
use Rattle.shelf.specs.Contents.{bytes_of}
use Rattle.file_convert.specs.Buffers.{HasRoom}
use Rattle.file_convert.specs.Files.{IsTameUpTo, with_front}
use Rattle.file_convert.proofs.file.convert_records.Given as goal

abbrev pub invariant-loop-index : goal.invariant-loop-index
invariant-loop-index g l = record {
  room : HasRoom l.cuts l.buffers;
  held : g.S.Shelf.told l.shelf ≡ option_map (with_front l.cuts l.name l.to l.index) (g.S.Shelf.told l.fn.shelf);
  later : g.S.Shelf.faults l.fn.shelf ≤ g.S.Shelf.faults l.shelf;
  tame : IfSome (g.S.Shelf.told l.fn.shelf) (λ files. (l.index * l.cuts.length ≤ length (bytes_of files l.name)) × IsTameUpTo l.cuts l.index (bytes_of files l.name));
}
