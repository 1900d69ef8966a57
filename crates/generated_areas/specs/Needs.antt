-- The areas that a program needs.
use Rattle.std.specs.Prelude.{ℕ, zero, suc, Bool, ◌&&◌, ◌==◌, List, [], ◌∷◌, ◌++◌, if◌then◌else◌}
use Rattle.std.specs.List.{list_any}
use Rattle.window_modes.specs.declared.modes.YearMode.{YearMode}
use Rattle.date_uses.specs.declared.uses.DateUse.{DateUse}
use Rattle.generated_areas.specs.declared.area.GeneratedArea.{GeneratedArea}
use Rattle.generated_areas.specs.declared.area.GeneratedArea.TheVariants as areas
use Rattle.generated_areas.specs.declared.bridged.BridgedMove.{BridgedMove}
use Rattle.generated_areas.specs.Dates.{accepts_year}
use Rattle.generated_areas.specs.Bridged.{bridged_in}

-- a use of the program that accepts such a year
abbrev pub is_accepting : List YearMode → ℕ → ℕ → DateUse → Bool
is_accepting modes program unit u = u.program == program && accepts_year modes unit u.form

-- for dates and for days, with their units digit of the year at the powers 4 and 3
abbrev pub date_areas : List YearMode → ℕ → List DateUse → List GeneratedArea
date_areas modes program uses = if list_any (is_accepting modes program 4) uses then areas.Date ∷ areas.FullDate ∷ [] else []

abbrev pub day_areas : List YearMode → ℕ → List DateUse → List GeneratedArea
day_areas modes program uses = if list_any (is_accepting modes program 3) uses then areas.Day ∷ areas.FullDay ∷ [] else []

-- the bridged moves of the program whose years have unlike modes
abbrev pub bridged_by : List YearMode → ℕ → DateUse → List BridgedMove
bridged_by modes program u = if u.program == program then bridged_in modes u.form else []

abbrev pub bridged_moves : List YearMode → ℕ → List DateUse → List BridgedMove
bridged_moves modes program [] = []
bridged_moves modes program (u ∷ uses) = bridged_by modes program u ++ bridged_moves modes program uses

abbrev pub has_digits : ℕ → BridgedMove → Bool
has_digits n move = move.digits == n

abbrev pub is_widened : ℕ → BridgedMove → Bool
is_widened n move = move.digits == n && move.windowed

-- for moves of n digits; the longer area where the sender of one of them is windowed
abbrev pub short_area : List BridgedMove → ℕ → List GeneratedArea
short_area moves n = if list_any (has_digits n) moves then areas.Short n ∷ [] else []

abbrev pub long_area : List BridgedMove → ℕ → List GeneratedArea
long_area moves n = if list_any (is_widened n) moves then areas.Long n ∷ [] else []

-- for moves of fewer than so many digits, by increasing digits
abbrev pub areas_below : List BridgedMove → ℕ → List GeneratedArea
areas_below moves zero = []
areas_below moves (suc n) = areas_below moves n ++ (short_area moves n ++ long_area moves n)

-- those for dates, those for days, and those for bridged moves; no number has more than 18 digits
abbrev pub needs : List YearMode → ℕ → List DateUse → List GeneratedArea
needs modes program uses =
    date_areas modes program uses ++ (day_areas modes program uses ++ areas_below (bridged_moves modes program uses) 19)
