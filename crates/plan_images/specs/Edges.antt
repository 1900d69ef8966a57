-- Spans of an area that begin and end between pieces, and where they stand after the conversion.
use Rattle.std.specs.Prelude.{Bool, nat_le, nat_lt, ◌&&◌, ◌≡◌, ℕ, ◌+◌, ◌-◌, ◌<◌, ◌≤◌, ◌++◌, List, [], ◌∷◌, map, Some, slice_get}
use Rattle.y2k_base.specs.declared.place.Span.{Span}
use Rattle.year_image.specs.Piece.{Piece, width, grown_width, size, grown_size}
use Rattle.file_convert.specs.declared.cut.Cut.{Cut}
use Rattle.file_convert.specs.declared.cut.Cuts.{Cuts}
use Rattle.file_convert.specs.Cuts.{piece_of, IsInOrder}
use Rattle.plan_images.specs.declared.table.Table.{Table}

-- the pieces part at this offset, and what stands before it has that many bytes after the conversion
pub record IsEdge (whole : List Piece) (offset grown : ℕ) : Type 0 where
  pub before : List Piece
  pub after : List Piece
  pub splits : whole ≡ before ++ after
  pub here : size before ≡ offset
  pub there : grown_size before ≡ grown

-- the span begins and ends between pieces, and after the conversion stands in this one
pub record IsMoved (whole : List Piece) (span moved : Span) : Type 0 where
  pub before : List Piece
  pub inside : List Piece
  pub after : List Piece
  pub splits : whole ≡ before ++ (inside ++ after)
  pub offset : size before ≡ span.offset
  pub long : size inside ≡ span.length
  pub lies : moved ≡ record { area = span.area; offset = grown_size before; length = grown_size inside }

-- the span is such a one
abbrev pub IsBetween : List Piece → Span → Type 0
IsBetween whole span = (moved : Span) × IsMoved whole span moved

-- the byte is one of the cut
abbrev pub Covers : Cut → ℕ → Type 0
Covers cut offset = (cut.offset ≤ offset) × (offset < cut.offset + width (piece_of cut))

-- the cut begins from one offset on, before another
abbrev pub begins_between : ℕ → ℕ → Cut → Bool
begins_between start end cut = nat_le start cut.offset && nat_lt cut.offset end

-- the cut begins before that byte and goes on with it
abbrev pub GoesAcross : Cut → ℕ → Type 0
GoesAcross cut offset = (cut.offset < offset) × (offset < cut.offset + width (piece_of cut))

-- the last of so many first cuts
abbrev pub IsLast : List Cut → ℕ → Cut → Type 0
IsLast cuts count cut = (i : ℕ) × (i + 1 ≡ count) × (slice_get cuts i ≡ Some cut)

-- How many bytes the images of cuts are longer.

abbrev pub growth : Cut → ℕ
growth cut = grown_width (piece_of cut) - width (piece_of cut)

abbrev pub growths : List Cut → ℕ
growths [] = 0
growths (cut ∷ cuts) = growth cut + growths cuts

-- of the first ones, for each number of them
abbrev pub sums_from : ℕ → List Cut → List ℕ
sums_from sum [] = sum ∷ []
sums_from sum (cut ∷ cuts) = sum ∷ sums_from (sum + growth cut) cuts

pub record IsSound (table : Table) : Type 0 where
  pub ordered : IsInOrder table.cuts
  pub summed : table.sums ≡ sums_from 0 table.cuts.list

abbrev pub cuts_of : List Table → List Cuts
cuts_of tables = map (λ table. table.cuts) tables
