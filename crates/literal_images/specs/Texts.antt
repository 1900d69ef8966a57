-- What becomes of a literal whose bytes meet those of a field from the left.
use Rattle.std.specs.Prelude.{ℕ, ◌+◌, ◌-◌, Bool, true, ◌&&◌, ◌==◌, List, [], ◌∷◌, ◌++◌, length, take, drop, replicate, reverse, None, if◌then◌else◌}
use Rattle.y2k_base.specs.declared.place.Span.{Span}
use Rattle.year_pairs.specs.declared.year.YearKind.{YearKind}
use Rattle.year_pairs.specs.declared.year.YearKind.TheVariants as years
use Rattle.year_image.specs.Piece.{Piece, Keep, Pair, Packed, width}
use Rattle.year_image.specs.Image.{image, tame}
use Rattle.window_modes.specs.declared.modes.YearMode.{YearMode}
use Rattle.date_uses.specs.declared.uses.Used.{Used}
use Rattle.date_uses.specs.declared.uses.Used.TheVariants as used
use Rattle.literal_images.specs.declared.meeting.Meeting.{Meeting}
use Rattle.literal_images.specs.Meetings.{places}
use Rattle.literal_images.specs.Numbers.{written, fitted}

abbrev pub repeated : ℕ → ℕ → List ℕ
repeated byte count = replicate count byte

-- its bytes: a number has its digits, and ZERO is as long as the field
abbrev pub bytes_of : Used → ℕ → List ℕ
bytes_of (used.Place place) count = []
bytes_of (used.Number value digits at) count = written value digits
bytes_of (used.Text bytes at) count = bytes
bytes_of (used.Figure byte at) count = repeated byte count

-- as it comes to the field
abbrev pub given : Meeting → Used → Span → List ℕ
given meeting literal span = fitted 32 (places meeting span.length (length (bytes_of literal span.length))) (bytes_of literal span.length)

-- an expanded year as a piece
abbrev pub piece_at : YearKind → Piece
piece_at years.Pair = Pair None
piece_at (years.Packed digits unit) = Packed digits unit None

abbrev pub piece_of : YearMode → Piece
piece_of mode = piece_at mode.year.kind

-- where it begins in the span
abbrev pub start_in : Span → YearMode → ℕ
start_in span mode = mode.year.place.offset - span.offset

-- the pieces from one byte on to the end: what lies between the years is kept
abbrev pub pieces_from : Span → ℕ → ℕ → List YearMode → List Piece
pieces_from span at end [] = replicate (end - at) Keep
pieces_from span at end (mode ∷ modes) =
    replicate (start_in span mode - at) Keep ++ (piece_of mode ∷ pieces_from span (start_in span mode + width (piece_of mode)) end modes)

-- the pieces that the years make of so many bytes
abbrev pub pieces : Span → ℕ → List YearMode → List Piece
pieces span count modes = pieces_from span 0 count modes

-- each of the pieces is tame
abbrev pub are_tame : List Piece → List ℕ → Bool
are_tame [] bytes = true
are_tame (piece ∷ pieces) bytes = tame 48 piece (take (width piece) bytes) && are_tame pieces (drop (width piece) bytes)

-- without the spaces that stand first
abbrev pub without_spaces : List ℕ → List ℕ
without_spaces [] = []
without_spaces (byte ∷ bytes) = if byte == 32 then without_spaces bytes else byte ∷ bytes

-- without the spaces at the end, but with at least one byte
abbrev pub trimmed : List ℕ → List ℕ
trimmed [] = []
trimmed (byte ∷ bytes) = byte ∷ reverse (without_spaces (reverse bytes))

-- the bytes with those of each year grown
abbrev pub grown : Meeting → Used → Span → List YearMode → List ℕ
grown meeting literal span modes = image 48 (pieces span (length (given meeting literal span)) modes) (given meeting literal span)

-- its bytes of each year are two digits, a packed number, or one byte repeated
abbrev pub is_tame : Meeting → Used → Span → List YearMode → Bool
is_tame meeting literal span modes = are_tame (pieces span (length (given meeting literal span)) modes) (given meeting literal span)

-- the text as it is printed
abbrev pub new_text : Meeting → Used → Span → List YearMode → List ℕ
new_text meeting literal span modes = trimmed (grown meeting literal span modes)
