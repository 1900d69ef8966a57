-- References whose bounds are written as numbers: a year may not go across their ends.
use Rattle.std.specs.Prelude.{List, [], ◌∷◌, ◌++◌, Option, Some, None, if◌then◌else◌}
use Rattle.y2k_base.specs.declared.place.Span.{Span}
use Rattle.y2k_base.specs.declared.word.Origin.{Origin}
use Rattle.year_labels.specs.Facts.{place_in}
use Rattle.window_modes.specs.declared.modes.YearMode.{YearMode}
use Rattle.year_index.specs.Years.{year_across}
use Rattle.date_views.specs.declared.side.Side.{Side}
use Rattle.date_views.specs.declared.side.Side.TheVariants as sides
use Rattle.date_uses.specs.declared.uses.Used.{Used}
use Rattle.date_uses.specs.declared.uses.Used.TheVariants as used
use Rattle.plan_limits.specs.declared.limit.Limit.{Limit}
use Rattle.plan_limits.specs.declared.limit.LimitKind.TheVariants as kinds
use Rattle.plan_limits.specs.Limits.{place_limit}

abbrev pub split : Origin → Option YearMode → List Limit
split at None = []
split at (Some mode) = place_limit kinds.SplitYear at mode.year.place ∷ []

-- the bytes begin or end inside a year
abbrev pub split_span : List YearMode → Origin → Span → List Limit
split_span years at span = split at (year_across years (place_in span 0)) ++ split at (year_across years (place_in span span.length))

abbrev pub split_side : List YearMode → Origin → Option Side → List Limit
split_side years at None = []
split_side years at (Some (sides.Known field)) = split_span years at field.span
split_side years at (Some (sides.Moving most)) = []

-- of a table the first occurrence is looked at
abbrev pub split_limits : List YearMode → Origin → Used → List Limit
split_limits years at (used.Place place) = if place.cut then split_side years at place.side else []
split_limits years at (used.Number value digits word) = []
split_limits years at (used.Text bytes word) = []
split_limits years at (used.Figure byte word) = []
