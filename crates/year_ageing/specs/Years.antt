-- The years of a record on the two sides of a conversion, and what they become when they are moved.
use Rattle.std.specs.Prelude.{ℕ, ◌+◌, ◌-◌, ◌*◌, ◌/◌, ◌%◌, Bool, true, cond, ◌&&◌, not, List, [], ◌∷◌, ◌++◌, take, drop, Option, Some, None, nat_le, ◌==◌, slice_index, ℤ, pos, negsuc, ◌+ℤ◌}
use Rattle.std.specs.Option.{option_and_then}
use Rattle.byte_lists.specs.Digit.{is_digit}
use Rattle.byte_lists.specs.HalfBytes.{halves, joined}
use Rattle.byte_lists.specs.Part.{with_part}
use Rattle.year_image.specs.Piece.{Piece, Keep, Pair, Packed, width, grown_width}
use Rattle.year_image.specs.Packing.{is_packed, all_equal, year_at}
use Rattle.year_image.specs.Image.{tame}
use Rattle.year_ageing.specs.declared.side.Side.{Side}
use Rattle.year_ageing.specs.declared.side.Side.TheVariants as sides
use Rattle.year_ageing.specs.declared.fault.AgeKind.{AgeKind}
use Rattle.year_ageing.specs.declared.fault.AgeKind.TheVariants as kinds
use Rattle.year_ageing.specs.declared.task.Task.{Task}
use Rattle.year_ageing.specs.declared.task.Task.TheVariants as tasks

-- how many bytes a piece has on a side
abbrev pub side_width : Side → Piece → ℕ
side_width sides.Old p = width p
side_width sides.New p = grown_width p

-- how many digits more a year without a window has there
abbrev pub extra : Side → Option ℕ → ℕ
extra sides.Old pivot = 0
extra sides.New None = 2
extra sides.New (Some q) = 0

-- the year that the two digits of a text at this place give
abbrev pub text_year : ℕ → List ℕ → Option ℕ
text_year at bs = cond (is_digit 48 (slice_index bs at) && is_digit 48 (slice_index bs (at + 1))) (Some ((slice_index bs at - 48) * 10 + (slice_index bs (at + 1) - 48))) None

-- the year of a packed number of so many digits, its units digit at this power of ten
abbrev pub packed_year : ℕ → ℕ → List ℕ → Option ℕ
packed_year digits unit bs = cond (is_packed digits bs) (Some (slice_index (halves bs) (year_at digits unit) * 10 + slice_index (halves bs) (year_at digits unit + 1))) None

-- the last two digits of the year that a piece holds, where it holds digits
abbrev pub year_of : Side → Piece → List ℕ → Option ℕ
year_of side Keep bs = None
year_of side (Pair pivot) bs = text_year (extra side pivot) bs
year_of side (Packed digits unit pivot) bs = packed_year (digits + extra side pivot) unit bs

-- a piece with another year
abbrev pub with_year : Side → Piece → ℕ → List ℕ → List ℕ
with_year side Keep year bs = bs
with_year side (Pair pivot) year bs = with_part bs (extra side pivot) ((48 + year / 10) ∷ (48 + year % 10) ∷ [])
with_year side (Packed digits unit pivot) year bs = joined (with_part (halves bs) (year_at (digits + extra side pivot) unit) (year / 10 ∷ year % 10 ∷ []))

-- the bytes are the image of a tame piece: 19 stands before two digits, and what is no year is one byte all over
abbrev pub is_image : Piece → List ℕ → Bool
is_image Keep bs = true
is_image (Pair None) bs =
    cond (is_digit 48 (slice_index bs 2) && is_digit 48 (slice_index bs 3)) (slice_index bs 0 == 49 && slice_index bs 1 == 57)
    (not (is_digit 48 (slice_index bs 0)) && all_equal (slice_index bs 0) bs)
is_image (Pair (Some q)) bs = tame 48 (Pair (Some q)) bs
is_image (Packed digits unit None) bs =
    cond (is_packed (digits + 2) bs) (slice_index (halves bs) (year_at digits unit) == 1 && slice_index (halves bs) (year_at digits unit + 1) == 9)
    (all_equal (slice_index bs 0) bs)
is_image (Packed digits unit (Some q)) bs = tame 48 (Packed digits unit (Some q)) bs

-- a piece is tame, or the image of a tame one
abbrev pub is_formed : Side → Piece → List ℕ → Bool
is_formed sides.Old p bs = tame 48 p bs
is_formed sides.New p bs = is_image p bs

-- the first year of its window, and 0 where it has none
abbrev pub lowest : Option ℕ → ℕ
lowest None = 0
lowest (Some q) = q

abbrev pub lowest_of : Piece → ℕ
lowest_of Keep = 0
lowest_of (Pair pivot) = lowest pivot
lowest_of (Packed digits unit pivot) = lowest pivot

-- a year from the lowest to 99
abbrev pub year_in : ℕ → ℤ → Option ℕ
year_in low (pos year) = cond (nat_le low year && nat_le year 99) (Some year) None
year_in low (negsuc n) = None

-- a year moved, where it stays in its range
abbrev pub moved : ℕ → ℤ → ℕ → Option ℕ
moved low years year = year_in low (pos year +ℤ years)

-- the year that a piece gets, where it has one
abbrev pub new_year : Side → ℤ → Piece → List ℕ → Option ℕ
new_year side years p bs = option_and_then (moved (lowest_of p) years) (year_of side p bs)

abbrev pub year_set : Side → Piece → List ℕ → Option ℕ → List ℕ
year_set side p bs None = bs
year_set side p bs (Some year) = with_year side p year bs

-- a piece with its year moved
abbrev pub aged : Side → ℤ → Piece → List ℕ → List ℕ
aged side years p bs = year_set side p bs (new_year side years p bs)

-- half-bytes without the century above the year
abbrev pub without_century : ℕ → List ℕ → List ℕ
without_century at hs = take at hs ++ drop (at + 2) hs

-- the piece without its century
abbrev pub shrunk : Piece → List ℕ → List ℕ
shrunk Keep bs = bs
shrunk (Pair None) bs = drop 2 bs
shrunk (Pair (Some q)) bs = bs
shrunk (Packed digits unit None) bs = cond (is_packed (digits + 2) bs) (joined (without_century (year_at digits unit) (halves bs))) (drop 1 bs)
shrunk (Packed digits unit (Some q)) bs = bs

-- what is wrong with a piece that is not well formed
abbrev pub misfit : Side → AgeKind
misfit sides.Old = kinds.Untame
misfit sides.New = kinds.NotImage

abbrev pub range_fault : Option ℕ → Option AgeKind
range_fault None = Some kinds.YearRange
range_fault (Some year) = None

-- a year that there is leaves its range
abbrev pub moving_fault : ℕ → ℤ → Option ℕ → Option AgeKind
moving_fault low years None = None
moving_fault low years (Some year) = range_fault (moved low years year)

-- the side of the records that are read
abbrev pub task_side : Task → Side
task_side (tasks.Age side years) = side
task_side tasks.Contract = sides.New

-- what is wrong with a piece
abbrev pub fault_of : Task → Piece → List ℕ → Option AgeKind
fault_of (tasks.Age side years) p bs = cond (is_formed side p bs) (moving_fault (lowest_of p) years (year_of side p bs)) (Some (misfit side))
fault_of tasks.Contract p bs = cond (is_image p bs) None (Some kinds.NotImage)

-- what becomes of it
abbrev pub change_of : Task → Piece → List ℕ → List ℕ
change_of (tasks.Age side years) = aged side years
change_of tasks.Contract = shrunk
