-- What an operand takes of storage, how two operands are compared, and the years of an operand.
use Rattle.std.specs.Prelude.{ℕ, ◌+◌, Bool, true, false, not, ◌||◌, ◌&&◌, ◌==◌, List, [], ◌∷◌, Option, Some, None, if◌then◌else◌}
use Rattle.y2k_base.specs.declared.place.Span.{Span}
use Rattle.cobol_syntax.specs.declared.program.Usage.{Usage}
use Rattle.cobol_syntax.specs.declared.program.Usage.TheVariants as usage
use Rattle.operand_kinds.specs.declared.kind.Kind.{Kind}
use Rattle.operand_kinds.specs.declared.kind.Kind.TheVariants as kind
use Rattle.operand_kinds.specs.Kinds as kinds
use Rattle.year_pairs.specs.declared.year.Year.{Year}
use Rattle.year_pairs.specs.declared.year.YearKind.{YearKind}
use Rattle.year_pairs.specs.declared.year.YearKind.TheVariants as years
use Rattle.date_views.specs.declared.side.Field.{Field}
use Rattle.date_views.specs.declared.side.Side.{Side}
use Rattle.date_views.specs.declared.side.Side.TheVariants as sides
use Rattle.date_views.specs.Sides.{kind_of}
use Rattle.window_modes.specs.declared.modes.YearMode.{YearMode}
use Rattle.year_index.specs.Years.{years_in}
use Rattle.date_uses.specs.declared.uses.Used.{Used}
use Rattle.date_uses.specs.declared.uses.Used.TheVariants as operand

abbrev pub known_field : Side → Option Field
known_field (sides.Known field) = Some field
known_field (sides.Moving most) = None

abbrev pub side_field : Option Side → Option Field
side_field None = None
side_field (Some side) = known_field side

-- the bytes of an operand, where they can be told. A literal has none
abbrev pub field_of : Used → Option Field
field_of (operand.Place place) = side_field place.side
field_of (operand.Number value digits at) = None
field_of (operand.Text bytes at) = None
field_of (operand.Figure byte at) = None

abbrev pub years_of_field : List YearMode → Option Field → List YearMode
years_of_field modes None = []
years_of_field modes (Some field) = years_in modes field.span

-- the years that an operand has a byte of
abbrev pub years_of : List YearMode → Used → List YearMode
years_of modes x = years_of_field modes (field_of x)

abbrev pub is_number_side : Option Side → Bool
is_number_side None = false
is_number_side (Some side) = kinds.is_number (kind_of side)

-- a number, or a numeric literal
abbrev pub is_number : Used → Bool
is_number (operand.Place place) = is_number_side place.side
is_number (operand.Number value digits at) = true
is_number (operand.Text bytes at) = false
is_number (operand.Figure byte at) = false

abbrev pub is_zero : Used → Bool
is_zero (operand.Place place) = false
is_zero (operand.Number value digits at) = false
is_zero (operand.Text bytes at) = false
is_zero (operand.Figure byte at) = byte == 48

-- two numbers are compared by value, and ZERO is one beside a number; everything else by bytes
abbrev pub compares_values : Used → Used → Bool
compares_values x y = (is_number x && (is_number y || is_zero y)) || (is_zero x && is_number y)

abbrev pub is_packed_usage : Usage → Bool
is_packed_usage usage.Display = false
is_packed_usage usage.Packed = true
is_packed_usage usage.Binary = false

abbrev pub is_packed : Kind → Bool
is_packed kind.Group = false
is_packed kind.Text = false
is_packed (kind.Edited form) = false
is_packed (kind.Number usage form) = is_packed_usage usage

-- the year has the two highest digits of a packed number, or is one of two bytes
abbrev pub has_lead_kind : Field → YearKind → Bool
has_lead_kind field years.Pair = not (is_packed field.kind)
has_lead_kind field (years.Packed digits unit) = is_packed field.kind && (digits == field.digits && unit + 2 == field.digits)

abbrev pub begins : Span → Year → Bool
begins span year = year.place.area.0 == span.area.0 && year.place.offset == span.offset

-- the year stands in the first two digits or bytes
abbrev pub leads : Field → Year → Bool
leads field year = begins field.span year && has_lead_kind field year.kind

abbrev pub only_lead : Field → List YearMode → Option YearMode
only_lead field [] = None
only_lead field (mode ∷ []) = if leads field mode.year then Some mode else None
only_lead field (mode ∷ other ∷ modes) = None

abbrev pub lead_of_field : List YearMode → Option Field → Option YearMode
lead_of_field modes None = None
lead_of_field modes (Some field) = only_lead field (years_in modes field.span)

-- the year in the first two digits or bytes of an operand, if that is its only one
abbrev pub lead_year : List YearMode → Used → Option YearMode
lead_year modes x = lead_of_field modes (field_of x)
