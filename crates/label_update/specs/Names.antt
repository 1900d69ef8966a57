-- The names of areas. Areas are numbered from 0: those of the first program, then those of the next.
use Rattle.std.specs.Prelude.{ℕ, ◌+◌, List, [], ◌∷◌, ◌++◌, length, codes, slice_get, Option, Some, None}
use Rattle.std.specs.List.{filter}
use Rattle.std.specs.Str.{bytes_eq}
use Rattle.y2k_base.specs.declared.place.AreaId.{AreaId}
use Rattle.cobol_syntax.specs.declared.program.Program.{Program}
use Rattle.data_layout.specs.declared.item.Area.{Area}
use Rattle.data_layout.specs.declared.item.Layout.{Layout}
use Rattle.data_layout.specs.declared.portfolio.Portfolio.{Portfolio}
use Rattle.label_update.specs.declared.names.AreaName.{AreaName}

-- what stands for a name that isn't there
abbrev pub filler : List ℕ
filler = codes "FILLER"

abbrev pub name_text : Option (List ℕ) → List ℕ
name_text None = filler
name_text (Some name) = name

-- how many of the areas have the name
abbrev pub count_named : List ℕ → List Area → ℕ
count_named name areas = length (filter (λ area. bytes_eq (name_text area.name) name) areas)

-- an area of the program of that name, behind those areas
abbrev pub area_name : List ℕ → List Area → Area → AreaName
area_name program before area = record { program = program; name = name_text area.name; turn = count_named (name_text area.name) before + 1 }

-- the areas of a program, behind those before
abbrev pub names_after : List ℕ → List Area → List Area → List AreaName
names_after program before [] = []
names_after program before (area ∷ areas) = area_name program before area ∷ names_after program (before ++ area ∷ []) areas

-- the areas of programs with their layouts, in the same order
abbrev pub names_in : List Program → List Layout → List AreaName
names_in [] layouts = []
names_in (program ∷ programs) [] = []
names_in (program ∷ programs) (layout ∷ layouts) = names_after program.id [] layout.areas ++ names_in programs layouts

abbrev pub names_of : Portfolio → List AreaName
names_of portfolio = names_in portfolio.programs portfolio.layouts

abbrev pub no_name : AreaName
no_name = record { program = []; name = filler; turn = 0 }

abbrev pub known_or_none : Option AreaName → AreaName
known_or_none None = no_name
known_or_none (Some name) = name

-- an area past the last one is FILLER of no program
abbrev pub name_at : List AreaName → AreaId → AreaName
name_at names area = known_or_none (slice_get names area.0)

-- the count that a table holds
abbrev pub turn_in : Option ℕ → ℕ
turn_in None = 0
turn_in (Some turn) = turn
