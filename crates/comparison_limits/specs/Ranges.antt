-- Limits of the values of condition-names from one to another, and of tests for letters.
use Rattle.std.specs.Prelude.{ℕ, Bool, ◌&&◌, List, [], ◌++◌, Option, Some, None, is_some, if◌then◌else◌}
use Rattle.y2k_base.specs.declared.word.Origin.{Origin}
use Rattle.y2k_base.specs.declared.word.Word.{Word}
use Rattle.window_modes.specs.declared.modes.YearMode.{YearMode}
use Rattle.date_uses.specs.declared.uses.Used.{Used}
use Rattle.plan_limits.specs.declared.limit.Limit.{Limit}
use Rattle.plan_limits.specs.declared.limit.LimitKind.TheVariants as limits
use Rattle.window_dates.specs.declared.window.WindowedYear.{WindowedYear}
use Rattle.window_dates.specs.Operands.{compares_values, lead_year}
use Rattle.window_dates.specs.Windows.{window_in}
use Rattle.comparison_limits.specs.Orders.{operand_runs, word_of, word_limits, is_inside}

-- the expanded packed years of an item whose bytes are compared with one of the two ends
abbrev pub packed_range : List YearMode → Origin → Used → Used → Used → List Limit
packed_range modes at item low high =
    if compares_values item low && compares_values item high then [] else operand_runs modes at item

-- the first two digits or bytes of the item are its only year, and both ends lie in its hundred years
abbrev pub is_kept : List Word → List YearMode → ℕ → Used → Used → Used → Bool
is_kept words modes pivot item low high =
    is_some (lead_year modes item) && (is_inside words pivot item low && is_inside words pivot item high)

abbrev pub windowed_range : List Word → List YearMode → Used → Used → Used → Option WindowedYear → List Limit
windowed_range words modes item low high None = []
windowed_range words modes item low high (Some year) =
    if is_kept words modes year.pivot item low high then [] else word_limits limits.RangeAcrossPivot (word_of words low)

-- the values of a condition-name; a single value has no limit
abbrev pub range_limits : List Word → List YearMode → Origin → Used → Used → Option Used → List Limit
range_limits words modes at item low None = []
range_limits words modes at item low (Some high) =
    packed_range modes at item low high ++ windowed_range words modes item low high (window_in modes item)

-- a test for letters looks at each byte; one for digits has no limit
abbrev pub class_limits : List YearMode → Origin → Used → Bool → List Limit
class_limits modes at of numeric = if numeric then [] else operand_runs modes at of
