-- Limits of years that meet by value and have unlike modes.
use Rattle.std.specs.Prelude.{ℕ, Bool, true, false, not, ◌||◌, ◌==◌, List, [], ◌∷◌, ◌++◌, Option, Some, None, if◌then◌else◌}
use Rattle.y2k_base.specs.declared.place.BytePlace.{BytePlace}
use Rattle.y2k_base.specs.declared.word.Origin.{Origin}
use Rattle.mode_links.specs.declared.bridges.Bridge.{Bridge}
use Rattle.window_modes.specs.declared.modes.YearMode.{YearMode}
use Rattle.year_index.specs.Years.{year_at}
use Rattle.date_uses.specs.declared.uses.Used.{Used}
use Rattle.plan_limits.specs.declared.limit.Limit.{Limit}
use Rattle.plan_limits.specs.declared.limit.LimitKind.{LimitKind}
use Rattle.plan_limits.specs.declared.limit.LimitKind.TheVariants as limits
use Rattle.plan_limits.specs.Limits.{place_limit, number_limit}
use Rattle.window_dates.specs.declared.window.WindowedYear.{WindowedYear}
use Rattle.window_dates.specs.Operands.{years_of, compares_values}
use Rattle.window_dates.specs.Windows.{first_of, window_part}
use Rattle.comparison_limits.specs.declared.unlike.Contrast.{Contrast}
use Rattle.comparison_limits.specs.declared.unlike.Contrast.TheVariants as contrast

-- one of the two is windowed, and the other isn't
abbrev pub are_mixed : Option ℕ → Option ℕ → Bool
are_mixed None None = false
are_mixed None (Some q) = true
are_mixed (Some p) None = true
are_mixed (Some p) (Some q) = false

-- both are windowed, by unlike pivots
abbrev pub are_apart : Option ℕ → Option ℕ → Bool
are_apart None q = false
are_apart (Some p) None = false
are_apart (Some p) (Some q) = not (p == q)

abbrev pub are_unlike : Contrast → Option ℕ → Option ℕ → Bool
are_unlike contrast.Modes p q = are_mixed p q
are_unlike contrast.Pivots p q = are_apart p q

abbrev pub has_unlike : Contrast → Option ℕ → List YearMode → Bool
has_unlike c pivot [] = false
has_unlike c pivot (mode ∷ modes) = are_unlike c pivot mode.pivot || has_unlike c pivot modes

-- the first of some years that has an unlike one among others
abbrev pub first_unlike : Contrast → List YearMode → List YearMode → Option YearMode
first_unlike c [] others = None
first_unlike c (mode ∷ modes) others = if has_unlike c mode.pivot others then Some mode else first_unlike c modes others

abbrev pub kind_of : Contrast → LimitKind
kind_of contrast.Modes = limits.MixedCompare
kind_of contrast.Pivots = limits.PivotClash

abbrev pub year_limits : LimitKind → Origin → Option YearMode → List Limit
year_limits kind at None = []
year_limits kind at (Some mode) = place_limit kind at mode.year.place ∷ []

abbrev pub contrast_limits : Contrast → List YearMode → Origin → Used → Used → List Limit
contrast_limits c modes at left right = year_limits (kind_of c) at (first_unlike c (years_of modes left) (years_of modes right))

-- two numbers in any relation
abbrev pub number_limits : List YearMode → Origin → Used → Used → List Limit
number_limits modes at left right =
    if compares_values left right then contrast_limits contrast.Modes modes at left right ++ contrast_limits contrast.Pivots modes at left right
    else []

abbrev pub pivot_of : Option YearMode → Option ℕ
pivot_of None = None
pivot_of (Some mode) = mode.pivot

abbrev pub pivot_at : List YearMode → BytePlace → Option ℕ
pivot_at modes place = pivot_of (year_at modes place)

-- the two years of a bridged move
abbrev pub bridged_limits : List YearMode → Origin → Bridge → List Limit
bridged_limits modes at bridge =
    if are_apart (pivot_at modes bridge.sent.place) (pivot_at modes bridge.received.place)
    then place_limit limits.PivotClash at bridge.received.place ∷ [] else []

abbrev pub bridge_limits : List YearMode → Origin → Option Bridge → List Limit
bridge_limits modes at None = []
bridge_limits modes at (Some bridge) = bridged_limits modes at bridge

abbrev pub sum_window : List YearMode → Used → Used → Used → Option WindowedYear
sum_window modes to left right = first_of (window_part modes to) (first_of (window_part modes left) (window_part modes right))

abbrev pub pivot_limits : Origin → Option WindowedYear → List Limit
pivot_limits at None = []
pivot_limits at (Some year) = number_limit limits.SizeErrorInWindow at year.pivot ∷ []

-- a sum or a difference, with a size phrase or without one
abbrev pub size_limits : List YearMode → Origin → Used → Used → Used → Bool → List Limit
size_limits modes at to left right size = if size then pivot_limits at (sum_window modes to left right) else []
