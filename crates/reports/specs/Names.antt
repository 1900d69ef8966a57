-- The names of areas. Areas are numbered from 0: those of the first program, then those of the next.
use Rattle.std.specs.Prelude.{ℕ, List, [], ◌∷◌, ◌++◌, map, codes, slice_get, Option, Some, None}
use Rattle.y2k_base.specs.declared.place.AreaId.{AreaId}
use Rattle.cobol_syntax.specs.declared.program.Program.{Program}
use Rattle.data_layout.specs.declared.item.Area.{Area}
use Rattle.data_layout.specs.declared.item.Layout.{Layout}
use Rattle.data_layout.specs.declared.portfolio.Portfolio.{Portfolio}
use Rattle.reports.specs.declared.names.AreaName.{AreaName}

-- what stands for a name that isn't there
abbrev pub filler : List ℕ
filler = codes "FILLER"

abbrev pub name_text : Option (List ℕ) → List ℕ
name_text None = filler
name_text (Some name) = name

-- an area of the program of that name
abbrev pub area_name : List ℕ → Area → AreaName
area_name program area = record { program = program; area = name_text area.name }

-- the areas of programs with their layouts, in the same order
abbrev pub names_in : List Program → List Layout → List AreaName
names_in [] layouts = []
names_in (program ∷ programs) [] = []
names_in (program ∷ programs) (layout ∷ layouts) = map (area_name program.id) layout.areas ++ names_in programs layouts

abbrev pub names_of : Portfolio → List AreaName
names_of portfolio = names_in portfolio.programs portfolio.layouts

abbrev pub known_or_filler : Option AreaName → AreaName
known_or_filler None = record { program = []; area = filler }
known_or_filler (Some name) = name

-- an area past the last one is FILLER of no program
abbrev pub name_at : List AreaName → AreaId → AreaName
name_at names area = known_or_filler (slice_get names area.0)
