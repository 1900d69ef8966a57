-- How a literal meets a field, and which years it meets there.
use Rattle.std.specs.Prelude.{ℕ, max, Bool, true, false, ◌&&◌, ◌||◌, ◌==◌, List, [], ◌∷◌, flat_map, is_none, if◌then◌else◌}
use Rattle.y2k_base.specs.declared.place.Span.{Span}
use Rattle.operand_kinds.specs.declared.kind.Kind.{Kind}
use Rattle.operand_kinds.specs.Kinds.{is_aligned, is_number}
use Rattle.window_modes.specs.declared.modes.YearMode.{YearMode}
use Rattle.year_index.specs.Years.{years_in}
use Rattle.date_uses.specs.declared.uses.Used.{Used}
use Rattle.date_uses.specs.declared.uses.Used.TheVariants as used
use Rattle.date_uses.specs.declared.uses.MoveKind.{MoveKind}
use Rattle.date_uses.specs.declared.uses.MoveKind.TheVariants as moves
use Rattle.literal_images.specs.declared.meeting.Meeting.{Meeting}
use Rattle.literal_images.specs.declared.meeting.Meeting.TheVariants as meetings

-- READ's INTO and WRITE's FROM move bytes as to a group
abbrev pub meeting_of : MoveKind → Meeting
meeting_of moves.Statement = meetings.Moved
meeting_of moves.Varying = meetings.Moved
meeting_of moves.Into = meetings.Copied
meeting_of moves.From = meetings.Copied

-- a number literal, or ZERO
abbrev pub is_numeral : Used → Bool
is_numeral (used.Place place) = false
is_numeral (used.Number value digits at) = true
is_numeral (used.Text bytes at) = false
is_numeral (used.Figure byte at) = byte == 48

abbrev pub is_text : Used → Bool
is_text (used.Place place) = false
is_text (used.Number value digits at) = false
is_text (used.Text bytes at) = true
is_text (used.Figure byte at) = false

-- figurative constants other than ZERO stay as they are
abbrev pub has_image : Used → Bool
has_image literal = is_numeral literal || is_text literal

-- its digits meet those of the same powers; else its bytes meet those of the field from the left
abbrev pub is_by_value : Meeting → Used → Kind → Bool
is_by_value meetings.Moved literal kind = is_aligned kind
is_by_value meetings.Copied literal kind = false
is_by_value meetings.Compared literal kind = is_number kind && is_numeral literal

-- how many digits or bytes a literal of so many gets where the field has room for so many: a move cuts it or fills it, a
-- comparison only fills it
abbrev pub places : Meeting → ℕ → ℕ → ℕ
places meetings.Moved room count = room
places meetings.Copied room count = room
places meetings.Compared room count = max room count

-- a year without a pivot gets its century
abbrev pub if_expanded : YearMode → List YearMode
if_expanded mode = if is_none mode.pivot then mode ∷ [] else []

-- the years that get their century and have a byte in the span
abbrev pub expanded_in : List YearMode → Span → List YearMode
expanded_in modes span = flat_map if_expanded (years_in modes span)
