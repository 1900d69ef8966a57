-- Limits of order comparisons: expanded packed years that are compared by bytes, and windowed years whose order can't be
-- written anew.
use Rattle.std.specs.Prelude.{ℕ, Bool, true, false, not, ◌&&◌, List, [], ◌∷◌, ◌++◌, Option, Some, None, is_some, slice_get, if◌then◌else◌}
use Rattle.y2k_base.specs.declared.word.Origin.{Origin}
use Rattle.y2k_base.specs.declared.word.Word.{Word}
use Rattle.cobol_syntax.specs.declared.cond.Rel.{Rel}
use Rattle.cobol_syntax.specs.declared.cond.Rel.TheVariants as rel
use Rattle.year_pairs.specs.declared.year.YearKind.{YearKind}
use Rattle.year_pairs.specs.declared.year.YearKind.TheVariants as years
use Rattle.date_views.specs.declared.side.Field.{Field}
use Rattle.window_modes.specs.declared.modes.YearMode.{YearMode}
use Rattle.date_uses.specs.declared.uses.Used.{Used}
use Rattle.date_uses.specs.declared.uses.Used.TheVariants as operand
use Rattle.plan_limits.specs.declared.limit.Limit.{Limit}
use Rattle.plan_limits.specs.declared.limit.LimitKind.{LimitKind}
use Rattle.plan_limits.specs.declared.limit.LimitKind.TheVariants as limits
use Rattle.plan_limits.specs.Limits.{place_limit, word_limit}
use Rattle.window_dates.specs.declared.window.WindowedYear.{WindowedYear}
use Rattle.window_dates.specs.Operands.{field_of, years_of, compares_values, lead_year}
use Rattle.window_dates.specs.Windows.{is_windowed, window_of}
use Rattle.window_dates.specs.Literals.{is_digits_literal, is_in_window}

abbrev pub is_order : Rel → Bool
is_order rel.Equal = false
is_order rel.Less = true
is_order rel.Greater = true

abbrev pub is_run : YearKind → Bool
is_run years.Pair = false
is_run (years.Packed digits unit) = true

-- a packed year that gets its century
abbrev pub is_expanded_run : YearMode → Bool
is_expanded_run mode = is_run mode.year.kind && not (is_windowed mode)

abbrev pub run_limit : Origin → YearMode → List Limit
run_limit at mode = if is_expanded_run mode then place_limit limits.PackedOrder at mode.year.place ∷ [] else []

abbrev pub runs_limits : Origin → List YearMode → List Limit
runs_limits at [] = []
runs_limits at (mode ∷ modes) = run_limit at mode ++ runs_limits at modes

-- each expanded packed year of an operand whose order is that of its bytes
abbrev pub operand_runs : List YearMode → Origin → Used → List Limit
operand_runs modes at x = runs_limits at (years_of modes x)

abbrev pub packed_limits : List YearMode → Origin → Used → Used → List Limit
packed_limits modes at left right =
    if compares_values left right then [] else operand_runs modes at left ++ operand_runs modes at right

abbrev pub is_place : Used → Bool
is_place (operand.Place place) = true
is_place (operand.Number value digits at) = false
is_place (operand.Text bytes at) = false
is_place (operand.Figure byte at) = false

-- a literal of digits, or a place whose first two digits or bytes are its only year
abbrev pub is_shaped : List Word → List YearMode → Used → Bool
is_shaped words modes x = if is_place x then is_some (lead_year modes x) else is_digits_literal words x

abbrev pub shape_limit : List Word → List YearMode → Origin → Used → Used → WindowedYear → List Limit
shape_limit words modes at left right year =
    if is_shaped words modes left && is_shaped words modes right then [] else place_limit limits.WindowShape at year.year.place ∷ []

-- the word of a literal or a figurative constant
abbrev pub word_of : List Word → Used → Option Word
word_of words (operand.Place place) = None
word_of words (operand.Number value digits at) = slice_get words at
word_of words (operand.Text bytes at) = slice_get words at
word_of words (operand.Figure byte at) = slice_get words at

abbrev pub word_limits : LimitKind → Option Word → List Limit
word_limits kind None = []
word_limits kind (Some word) = word_limit kind word.origin word.text ∷ []

abbrev pub is_in_field : List Word → ℕ → Option Field → Used → Bool
is_in_field words pivot None literal = false
is_in_field words pivot (Some field) literal = is_in_window words pivot field literal

-- a literal of digits that is compared with a place, or is a value of it, and lies in the hundred years
abbrev pub is_inside : List Word → ℕ → Used → Used → Bool
is_inside words pivot place literal = is_digits_literal words literal && is_in_field words pivot (field_of place) literal

abbrev pub may_be_outside : List Word → Used → Used → Bool
may_be_outside words place literal = is_place place && is_digits_literal words literal

-- a literal of digits that is compared with a place and doesn't lie in the hundred years
abbrev pub is_outside : List Word → ℕ → Used → Used → Bool
is_outside words pivot place literal = may_be_outside words place literal && not (is_in_field words pivot (field_of place) literal)

abbrev pub outside_limits : List Word → ℕ → Used → Used → List Limit
outside_limits words pivot place literal =
    if is_outside words pivot place literal then word_limits limits.LiteralOutsideWindow (word_of words literal) else []

abbrev pub windowed_order : List Word → List YearMode → Origin → Used → Used → Option WindowedYear → List Limit
windowed_order words modes at left right None = []
windowed_order words modes at left right (Some year) =
    shape_limit words modes at left right year
    ++ (outside_limits words year.pivot left right ++ outside_limits words year.pivot right left)

-- two operands of which the one is below or above the other
abbrev pub order_limits : List Word → List YearMode → Origin → Used → Used → List Limit
order_limits words modes at left right =
    packed_limits modes at left right ++ windowed_order words modes at left right (window_of modes left right)
