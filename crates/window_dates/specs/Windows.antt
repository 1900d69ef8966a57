-- Years with a window of a hundred years.
use Rattle.std.specs.Prelude.{ℕ, Bool, ◌||◌, ◌&&◌, ◌==◌, nat_lt, List, [], ◌∷◌, Option, Some, None, is_some, if◌then◌else◌}
use Rattle.y2k_base.specs.declared.place.BytePlace.{BytePlace}
use Rattle.year_pairs.specs.declared.year.Year.{Year}
use Rattle.date_views.specs.declared.side.Field.{Field}
use Rattle.date_views.specs.Sums.{takes_part}
use Rattle.window_modes.specs.declared.modes.YearMode.{YearMode}
use Rattle.date_uses.specs.declared.uses.Used.{Used}
use Rattle.window_dates.specs.declared.window.WindowedYear.{WindowedYear}
use Rattle.window_dates.specs.Operands.{field_of, years_of, years_of_field}

abbrev pub is_windowed : YearMode → Bool
is_windowed mode = is_some mode.pivot

abbrev pub windowed_by : Year → Option ℕ → Option WindowedYear
windowed_by year None = None
windowed_by year (Some pivot) = Some (record { year = year; pivot = pivot })

-- the year with its pivot, where it has one
abbrev pub windowed : YearMode → Option WindowedYear
windowed mode = windowed_by mode.year mode.pivot

abbrev pub first_of : Option WindowedYear → Option WindowedYear → Option WindowedYear
first_of None other = other
first_of (Some year) other = Some year

-- the first that has a pivot
abbrev pub first_windowed : List YearMode → Option WindowedYear
first_windowed [] = None
first_windowed (mode ∷ modes) = first_of (windowed mode) (first_windowed modes)

abbrev pub stands_before : BytePlace → BytePlace → Bool
stands_before a b = nat_lt a.area.0 b.area.0 || (a.area.0 == b.area.0 && nat_lt a.offset b.offset)

-- the one that stands first in storage
abbrev pub lesser : Option WindowedYear → Option WindowedYear → Option WindowedYear
lesser None other = other
lesser (Some year) None = Some year
lesser (Some year) (Some other) = if stands_before other.year.place year.year.place then Some other else Some year

-- the first windowed year of an operand, by place
abbrev pub window_in : List YearMode → Used → Option WindowedYear
window_in modes x = first_windowed (years_of modes x)

-- the first windowed year of two operands, by place
abbrev pub window_of : List YearMode → Used → Used → Option WindowedYear
window_of modes x y = lesser (window_in modes x) (window_in modes y)

abbrev pub part_field : Option Field → Option Field
part_field None = None
part_field (Some field) = if takes_part field.kind then Some field else None

-- the windowed year that an operand of a sum or a difference is. Only an integer of two digits may be one
abbrev pub window_part : List YearMode → Used → Option WindowedYear
window_part modes x = first_windowed (years_of_field modes (part_field (field_of x)))
