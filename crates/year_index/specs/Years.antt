-- Which of the years have a byte, go across an edge, or have a byte in a span.
use Rattle.std.specs.Prelude.{ℕ, ◌+◌, ◌≤◌, Bool, ◌&&◌, ◌||◌, ◌==◌, nat_le, nat_lt, List, [], ◌∷◌, map, filter, All, Option, Some, None, if◌then◌else◌}
use Rattle.y2k_base.specs.declared.place.BytePlace.{BytePlace}
use Rattle.y2k_base.specs.declared.place.Span.{Span}
use Rattle.year_pairs.specs.Years.{width, AreInOrder}
use Rattle.window_modes.specs.declared.modes.YearMode.{YearMode}

-- the first byte behind a year
abbrev pub end_of : YearMode → ℕ
end_of mode = mode.year.place.offset + width mode.year.kind

-- the byte is one of the year
abbrev pub covers : BytePlace → YearMode → Bool
covers place mode = mode.year.place.area.0 == place.area.0 && (nat_le mode.year.place.offset place.offset && nat_lt place.offset (end_of mode))

-- the year begins before the byte and goes on with it
abbrev pub goes_across : BytePlace → YearMode → Bool
goes_across place mode = mode.year.place.area.0 == place.area.0 && (nat_lt mode.year.place.offset place.offset && nat_lt place.offset (end_of mode))

-- the year has a byte in the span
abbrev pub meets : Span → YearMode → Bool
meets span mode = mode.year.place.area.0 == span.area.0 && (nat_lt mode.year.place.offset (span.offset + span.length) && nat_lt span.offset (end_of mode))

abbrev pub first_where : (YearMode → Bool) → List YearMode → Option YearMode
first_where holds [] = None
first_where holds (mode ∷ modes) = if holds mode then Some mode else first_where holds modes

abbrev pub year_at : List YearMode → BytePlace → Option YearMode
year_at modes place = first_where (covers place) modes

abbrev pub year_across : List YearMode → BytePlace → Option YearMode
year_across modes place = first_where (goes_across place) modes

abbrev pub years_in : List YearMode → Span → List YearMode
years_in modes span = filter (meets span) modes

-- the year ends by that offset of the area, or lies in an area before it
abbrev pub ends_by : ℕ → ℕ → YearMode → Bool
ends_by area offset mode = nat_lt mode.year.place.area.0 area || (mode.year.place.area.0 == area && nat_le (end_of mode) offset)

-- the year begins before that offset of the area, or lies in an area before it
abbrev pub begins_before : ℕ → ℕ → YearMode → Bool
begins_before area offset mode = nat_lt mode.year.place.area.0 area || (mode.year.place.area.0 == area && nat_lt mode.year.place.offset offset)

-- the years stand in order, in areas of at most 65,535 bytes
abbrev pub IsNear : YearMode → Type 0
IsNear mode = mode.year.place.offset ≤ 65535

pub record ArePlaced (modes : List YearMode) : Type 0 where
  pub ordered : AreInOrder (map (λ mode. mode.year) modes)
  pub near : All IsNear modes
