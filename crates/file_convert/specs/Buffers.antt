-- Room for one record and its image.
use Rattle.std.specs.Prelude.{◌≡◌, length}
use Rattle.year_image.specs.Piece.{grown_size}
use Rattle.file_convert.specs.Cuts.{pieces}
use Rattle.file_convert.specs.declared.buffers.Buffers.{Buffers}
use Rattle.file_convert.specs.declared.cut.Cuts.{Cuts}

abbrev pub HasRoom : Cuts → Buffers → Type 0
HasRoom cuts buffers = (length buffers.record.items ≡ cuts.length) × (length buffers.image.items ≡ grown_size (pieces cuts))
