-- What becomes of a literal whose digits meet those of a number or an edited item.
use Rattle.std.specs.Prelude.{ℕ, ◌+◌, ◌-◌, Bool, ◌==◌, List, [], ◌∷◌, ◌++◌, length, take, drop, replicate, flat_map, slice_index_or, unsigned_abs, Option, Some, None, if◌then◌else◌}
use Rattle.std.specs.List.{list_any}
use Rattle.y2k_base.specs.declared.place.Span.{Span}
use Rattle.decimal_bytes.specs.declared.form.Scaled.{Scaled}
use Rattle.byte_lists.specs.Digit.{number_text}
use Rattle.operand_kinds.specs.declared.kind.Kind.{Kind}
use Rattle.operand_kinds.specs.declared.kind.Kind.TheVariants as kind
use Rattle.year_labels.specs.declared.rule.View.{View}
use Rattle.year_labels.specs.declared.rule.View.TheVariants as views
use Rattle.year_pairs.specs.declared.year.YearKind.{YearKind}
use Rattle.year_pairs.specs.declared.year.YearKind.TheVariants as years
use Rattle.window_modes.specs.declared.modes.YearMode.{YearMode}
use Rattle.date_views.specs.declared.side.Field.{Field}
use Rattle.date_uses.specs.declared.uses.Used.{Used}
use Rattle.date_uses.specs.declared.uses.Used.TheVariants as used
use Rattle.literal_images.specs.declared.meeting.Meeting.{Meeting}
use Rattle.literal_images.specs.Meetings.{places}

-- the digits of a number literal as they are written, without sign and point
abbrev pub written : Scaled → ℕ → List ℕ
written value digits = number_text digits (unsigned_abs value.number)

abbrev pub written_whole : Scaled → ℕ → List ℕ
written_whole value digits = take (digits - value.scale) (written value digits)

abbrev pub written_fraction : Scaled → ℕ → List ℕ
written_fraction value digits = drop (digits - value.scale) (written value digits)

-- the digits before the point. A text is an integer
abbrev pub whole : Used → List ℕ
whole (used.Place place) = []
whole (used.Number value digits at) = written_whole value digits
whole (used.Text bytes at) = bytes
whole (used.Figure byte at) = replicate 1 byte

-- the digits after the point
abbrev pub fraction : Used → List ℕ
fraction (used.Place place) = []
fraction (used.Number value digits at) = written_fraction value digits
fraction (used.Text bytes at) = []
fraction (used.Figure byte at) = []

-- the last so many digits, filled up with zeros in front
abbrev pub lined_up : ℕ → List ℕ → List ℕ
lined_up count digits = replicate (count - length digits) 48 ++ drop (length digits - count) digits

-- the first so many bytes, filled up with a byte behind
abbrev pub fitted : ℕ → ℕ → List ℕ → List ℕ
fitted byte count bytes = take count bytes ++ replicate (count - length bytes) byte

-- how many digits after the point
abbrev pub scale_of : Kind → ℕ
scale_of kind.Group = 0
scale_of kind.Text = 0
scale_of (kind.Edited form) = form.scale
scale_of (kind.Number usage form) = form.scale

-- the units digit of a year of two bytes has the power of its second byte
abbrev pub unit_of_pair : YearKind → Option ℕ → Option ℕ
unit_of_pair years.Pair power = power
unit_of_pair (years.Packed digits unit) power = None

abbrev pub unit_of_packed : YearKind → Option ℕ
unit_of_packed years.Pair = None
unit_of_packed (years.Packed digits unit) = Some unit

abbrev pub power_at : List (Option ℕ) → ℕ → Option ℕ
power_at powers i = slice_index_or powers i None

-- where the second byte of a year stands in a span
abbrev pub second_in : Span → YearMode → ℕ
second_in span mode = mode.year.place.offset + 1 - span.offset

-- the power of the units digit of a year, where the view shows it
abbrev pub unit_in : View → YearMode → Option ℕ
unit_in (views.Bytes span powers) mode = unit_of_pair mode.year.kind (power_at powers (second_in span mode))
unit_in (views.Packed span digits) mode = unit_of_packed mode.year.kind
unit_in views.Plain mode = None

abbrev pub unit_list : Option ℕ → List ℕ
unit_list None = []
unit_list (Some unit) = unit ∷ []

abbrev pub units : View → List YearMode → List ℕ
units view modes = flat_map (λ mode. unit_list (unit_in view mode)) modes

-- the digit of that power is the tens digit of one of the years
abbrev pub is_tens : List ℕ → ℕ → Bool
is_tens units power = list_any (λ unit. power == unit + 1) units

abbrev pub century : Bool → List ℕ
century tens = if tens then 49 ∷ 57 ∷ [] else []

-- with 1 and 9 before the tens digit of each year
abbrev pub with_centuries : List ℕ → List ℕ → List ℕ
with_centuries units [] = []
with_centuries units (digit ∷ digits) = century (is_tens units (length digits)) ++ digit ∷ with_centuries units digits

abbrev pub without_zeros : List ℕ → List ℕ
without_zeros [] = []
without_zeros (digit ∷ digits) = if digit == 48 then without_zeros digits else digit ∷ digits

abbrev pub behind_point : List ℕ → List ℕ
behind_point [] = []
behind_point (digit ∷ digits) = 46 ∷ digit ∷ digits

-- the digits before the point: aligned at it, and with their centuries
abbrev pub new_whole : Meeting → Used → Field → List ℕ → List ℕ
new_whole meeting literal field units = with_centuries units (lined_up (places meeting field.digits (length (whole literal))) (whole literal))

-- the digits after the point
abbrev pub new_fraction : Meeting → Used → Field → List ℕ
new_fraction meeting literal field = fitted 48 (places meeting (scale_of field.kind) (length (fraction literal))) (fraction literal)

-- the number as it is printed
abbrev pub new_number : Meeting → Used → Field → List ℕ → List ℕ
new_number meeting literal field units = without_zeros (new_whole meeting literal field units) ++ behind_point (new_fraction meeting literal field)
