-- The limits of areas and of their names in a portfolio.
use Rattle.std.specs.Prelude.{ℕ, ◌+◌, List, [], ◌∷◌, ◌++◌}
use Rattle.cobol_syntax.specs.declared.program.Program.{Program}
use Rattle.data_layout.specs.declared.item.Layout.{Layout}
use Rattle.window_modes.specs.declared.modes.YearMode.{YearMode}
use Rattle.date_uses.specs.declared.uses.DateUse.{DateUse}
use Rattle.plan_limits.specs.declared.limit.Limit.{Limit}
use Rattle.generated_areas.specs.Needs.{needs}
use Rattle.area_limits.specs.Extents.{extents}
use Rattle.area_limits.specs.Full.{lengths, full_limits}
use Rattle.area_limits.specs.Taken.{taken_limits}

-- of the program of that number; the areas of the programs before it have so many bytes
abbrev pub program_limits : List YearMode → List DateUse → ℕ → ℕ → Program → Layout → List Limit
program_limits modes uses before number program layout =
    full_limits before (extents modes uses number program layout) ++ taken_limits program.words (needs modes number uses)

-- of the programs from that number on, each with its layout
abbrev pub limits_from : List YearMode → List DateUse → ℕ → ℕ → List Program → List Layout → List Limit
limits_from modes uses before number [] layouts = []
limits_from modes uses before number (program ∷ programs) [] = []
limits_from modes uses before number (program ∷ programs) (layout ∷ layouts) =
    program_limits modes uses before number program layout
    ++ limits_from modes uses (before + lengths (extents modes uses number program layout)) (number + 1) programs layouts

abbrev pub area_limits : List Program → List Layout → List YearMode → List DateUse → List Limit
area_limits programs layouts modes uses = limits_from modes uses 0 0 programs layouts
