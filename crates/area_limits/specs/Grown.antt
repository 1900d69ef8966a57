-- How many bytes a span has after the conversion.
use Rattle.std.specs.Prelude.{ℕ, ◌+◌, List, [], ◌∷◌, is_some, if◌then◌else◌}
use Rattle.y2k_base.specs.declared.place.Span.{Span}
use Rattle.year_pairs.specs.declared.year.YearKind.{YearKind}
use Rattle.year_pairs.specs.declared.year.YearKind.TheVariants as kinds
use Rattle.window_modes.specs.declared.modes.YearMode.{YearMode}
use Rattle.year_index.specs.Years.{years_in}

-- the century takes two bytes, and in a packed number one
abbrev pub century_bytes : YearKind → ℕ
century_bytes kinds.Pair = 2
century_bytes (kinds.Packed digits unit) = 1

-- a windowed year doesn't grow
abbrev pub growth : YearMode → ℕ
growth mode = if is_some mode.pivot then 0 else century_bytes mode.year.kind

abbrev pub growths : List YearMode → ℕ
growths [] = 0
growths (mode ∷ modes) = growth mode + growths modes

abbrev pub grown : List YearMode → Span → ℕ
grown modes span = span.length + growths (years_in modes span)
