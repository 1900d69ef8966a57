-- Where the years of a record stand, and the pieces that they make of it.
use Rattle.std.specs.Prelude.{ℕ, ◌+◌, ◌-◌, ◌≤◌, Bool, cond, List, [], ◌∷◌, ◌++◌, Option, Some, None, replicate}
use Rattle.year_image.specs.Piece.{Piece, Keep, Pair, Packed, width}
use Rattle.year_image.specs.Image.{tame}
use Rattle.byte_lists.specs.Part.{part}
use Rattle.file_convert.specs.declared.cut.Cut.{Cut}
use Rattle.file_convert.specs.declared.cut.Cuts.{Cuts}
use Rattle.file_convert.specs.declared.cut.CutKind.{CutKind}
use Rattle.file_convert.specs.declared.cut.CutKind.TheVariants as kinds

-- the piece that a cut covers
abbrev pub piece_at : CutKind → Option ℕ → Piece
piece_at kinds.Pair pivot = Pair pivot
piece_at (kinds.Packed digits unit) pivot = Packed digits unit pivot

abbrev pub piece_of : Cut → Piece
piece_of cut = piece_at cut.kind cut.pivot

-- the pieces from one offset to the end: what lies between cuts is kept
abbrev pub pieces_from : ℕ → ℕ → List Cut → List Piece
pieces_from at end [] = replicate (end - at) Keep
pieces_from at end (cut ∷ cuts) = replicate (cut.offset - at) Keep ++ (piece_of cut ∷ pieces_from (cut.offset + width (piece_of cut)) end cuts)

abbrev pub pieces : Cuts → List Piece
pieces cuts = pieces_from 0 cuts.length cuts.list

-- the first year of a window of a hundred years, where there is one
abbrev pub IsPivot : Option ℕ → Type 0
IsPivot None = Unit {0}
IsPivot (Some pivot) = (1 ≤ pivot) × (pivot ≤ 99)

-- how many digits the image of a packed number has
abbrev pub grown_digits : ℕ → Option ℕ → ℕ
grown_digits digits None = digits + 2
grown_digits digits (Some pivot) = digits

-- a packed number's year stands within its digits, and its image has at most 18
abbrev pub IsFitting : Piece → Type 0
IsFitting Keep = Unit {0}
IsFitting (Pair pivot) = IsPivot pivot
IsFitting (Packed digits unit pivot) = (unit + 2 ≤ digits) × (grown_digits digits pivot ≤ 18) × IsPivot pivot

-- cuts in order, from one offset to the end, that do not overlap
abbrev pub IsInOrderFrom : ℕ → ℕ → List Cut → Type 0
IsInOrderFrom at end [] = at ≤ end
IsInOrderFrom at end (cut ∷ cuts) = (at ≤ cut.offset) × IsFitting (piece_of cut) × IsInOrderFrom (cut.offset + width (piece_of cut)) end cuts

-- the cuts of a record that is not too long
abbrev pub IsInOrder : Cuts → Type 0
IsInOrder cuts = (1 ≤ cuts.length) × (cuts.length ≤ 65535) × IsInOrderFrom 0 cuts.length cuts.list

-- the bytes of a record that a cut covers
abbrev pub covered : Cut → List ℕ → List ℕ
covered cut record_bytes = part record_bytes cut.offset (width (piece_of cut))

abbrev pub is_tame_at : Cut → List ℕ → Bool
is_tame_at cut record_bytes = tame 48 (piece_of cut) (covered cut record_bytes)

-- the first cut that is not tame
abbrev pub first_untame : List Cut → List ℕ → Option Cut
first_untame [] record_bytes = None
first_untame (cut ∷ cuts) record_bytes = cond (is_tame_at cut record_bytes) (first_untame cuts record_bytes) (Some cut)
