-- How many bytes a span has after the conversion, where its years get their century, as a number that is written.
use Rattle.std.specs.Prelude.{ℕ, ◌+◌, nat_lt, Bool, List, [], ◌∷◌, Option, Some, None, decimal, is_some, if◌then◌else◌}
use Rattle.y2k_base.specs.declared.place.Span.{Span}
use Rattle.year_pairs.specs.declared.year.YearKind.{YearKind}
use Rattle.year_pairs.specs.declared.year.YearKind.TheVariants as kinds
use Rattle.window_modes.specs.declared.modes.YearMode.{YearMode}
use Rattle.year_index.specs.Years.{years_in}

-- the century takes two bytes, and in a packed number one
abbrev pub century_bytes : YearKind → ℕ
century_bytes kinds.Pair = 2
century_bytes (kinds.Packed digits unit) = 1

-- a windowed year doesn't grow
abbrev pub growth : YearMode → ℕ
growth mode = if is_some mode.pivot then 0 else century_bytes mode.year.kind

abbrev pub growths : List YearMode → ℕ
growths [] = 0
growths (mode ∷ modes) = growth mode + growths modes

-- the span gets longer
abbrev pub grows : List YearMode → Span → Bool
grows modes span = nat_lt 0 (growths (years_in modes span))

-- so many more than the bytes that the span then has
abbrev pub number_behind : List YearMode → Span → ℕ → ℕ
number_behind modes span more = (span.length + growths (years_in modes span)) + more

-- a span that stays as long as it is keeps its number
abbrev pub new_number : List YearMode → Span → ℕ → Option (List ℕ)
new_number modes span more = if grows modes span then Some (decimal (number_behind modes span more)) else None
