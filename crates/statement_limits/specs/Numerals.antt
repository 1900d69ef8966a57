-- Texts that are used as numbers: moved to a number or an edited item.
use Rattle.std.specs.Prelude.{ℕ, ◌+◌, Bool, true, false, ◌&&◌, nat_lt, List, [], ◌∷◌, ◌++◌, Option, Some, None, slice_get, if◌then◌else◌}
use Rattle.y2k_base.specs.declared.place.Span.{Span}
use Rattle.y2k_base.specs.declared.word.Origin.{Origin}
use Rattle.y2k_base.specs.declared.word.Word.{Word}
use Rattle.data_layout.specs.declared.item.Item.{Item}
use Rattle.operand_kinds.specs.declared.kind.Kind.{Kind}
use Rattle.operand_kinds.specs.declared.kind.Kind.TheVariants as sorts
use Rattle.operand_kinds.specs.Kinds.{is_aligned}
use Rattle.year_pairs.specs.declared.year.YearKind.{YearKind}
use Rattle.year_pairs.specs.declared.year.YearKind.TheVariants as years
use Rattle.window_modes.specs.declared.modes.YearMode.{YearMode}
use Rattle.year_index.specs.Years.{years_in}
use Rattle.date_views.specs.declared.side.Side.{Side}
use Rattle.date_views.specs.declared.side.Side.TheVariants as sides
use Rattle.date_views.specs.Sides.{kind_of}
use Rattle.date_uses.specs.declared.uses.MoveKind.{MoveKind}
use Rattle.date_uses.specs.declared.uses.MoveKind.TheVariants as moves
use Rattle.date_uses.specs.declared.uses.UsedPlace.{UsedPlace}
use Rattle.date_uses.specs.declared.uses.Used.{Used}
use Rattle.date_uses.specs.declared.uses.Used.TheVariants as used
use Rattle.plan_limits.specs.declared.limit.Limit.{Limit}
use Rattle.plan_limits.specs.declared.limit.LimitKind.TheVariants as kinds
use Rattle.plan_limits.specs.Limits.{place_limit, number_limit}

abbrev pub is_text : Kind → Bool
is_text sorts.Group = false
is_text sorts.Text = true
is_text (sorts.Edited form) = false
is_text (sorts.Number usage form) = false

-- INTO and FROM move bytes, whatever the items are
abbrev pub moves_values : MoveKind → Bool
moves_values moves.Statement = true
moves_values moves.Varying = true
moves_values moves.Into = false
moves_values moves.From = false

abbrev pub is_aligned_side : Option Side → Bool
is_aligned_side None = false
is_aligned_side (Some side) = is_aligned (kind_of side)

-- a number or an edited item
abbrev pub receives_numbers : Used → Bool
receives_numbers (used.Place place) = is_aligned_side place.side
receives_numbers (used.Number value digits word) = false
receives_numbers (used.Text bytes word) = false
receives_numbers (used.Figure byte word) = false

-- the bytes of a text whose bounds are known
abbrev pub text_span : Option Side → Option Span
text_span None = None
text_span (Some (sides.Known field)) = if is_text field.kind then Some field.span else None
text_span (Some (sides.Moving most)) = None

abbrev pub origin_of : Option Word → Option Origin
origin_of None = None
origin_of (Some word) = Some word.origin

abbrev pub entry_of : List Word → Option Item → Option Origin
entry_of words None = None
entry_of words (Some item) = origin_of (slice_get words item.entry_at)

abbrev pub entry_at : List Word → List Item → Option ℕ → Option Origin
entry_at words items None = None
entry_at words items (Some number) = entry_of words (slice_get items number)

-- the limits of a text stand at the entry of its item, and those of a reference at the statement
abbrev pub text_origin : List Word → List Item → Origin → UsedPlace → Option Origin
text_origin words items at place = if place.cut then Some at else entry_at words items place.item

abbrev pub is_packed : YearKind → Bool
is_packed years.Pair = false
is_packed (years.Packed digits unit) = true

abbrev pub mixed : Origin → YearMode → List Limit
mixed at mode = if is_packed mode.year.kind then place_limit kinds.ShapeMix at mode.year.place ∷ [] else []

-- no byte of a packed year is a digit of a text
abbrev pub all_mixed : Origin → List YearMode → List Limit
all_mixed at [] = []
all_mixed at (mode ∷ modes) = mixed at mode ++ all_mixed at modes

-- a year that isn't windowed gets its century
abbrev pub century_of : Option ℕ → ℕ
century_of None = 2
century_of (Some pivot) = 0

-- how many digits the years get
abbrev pub centuries : List YearMode → ℕ
centuries [] = 0
centuries (mode ∷ modes) = century_of mode.pivot + centuries modes

-- a number has at most 18 digits
abbrev pub too_long : Origin → ℕ → List Limit
too_long at digits = if nat_lt 18 digits then number_limit kinds.TooManyDigits at digits ∷ [] else []

-- the years that have a byte in a text stand in it whole, since none is split
abbrev pub numeral_limits : List YearMode → Origin → Span → List Limit
numeral_limits years at span =
    all_mixed at (years_in years span) ++ too_long at (span.length + centuries (years_in years span))

abbrev pub numeral_if : List YearMode → Option Origin → Option Span → List Limit
numeral_if years None span = []
numeral_if years (Some at) None = []
numeral_if years (Some at) (Some span) = numeral_limits years at span

abbrev pub sender_limits : List YearMode → List Word → List Item → Origin → Used → List Limit
sender_limits years words items at (used.Place place) = numeral_if years (text_origin words items at place) (text_span place.side)
sender_limits years words items at (used.Number value digits word) = []
sender_limits years words items at (used.Text bytes word) = []
sender_limits years words items at (used.Figure byte word) = []

abbrev pub move_limits : List YearMode → List Word → List Item → Origin → MoveKind → Used → Used → List Limit
move_limits years words items at move from to =
    if moves_values move && receives_numbers to then sender_limits years words items at from else []
