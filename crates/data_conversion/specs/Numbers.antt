-- The years of the records of external files.
use Rattle.std.specs.Prelude.{ℕ, ◌+◌, List, [], ◌∷◌, slice_get, Option, Some, None}
use Rattle.convert_plan.specs.Calls.{cuts_if}
use Rattle.convert_plan.specs.Numbers.{first_area}
use Rattle.data_layout.specs.declared.portfolio.FileArea.{FileArea}
use Rattle.data_layout.specs.declared.portfolio.FileUse.{FileUse}
use Rattle.file_convert.specs.declared.cut.Cuts.{Cuts}
use Rattle.name_tables.specs.Table.{holds_nothing, with_value}

-- the numbers of files by their external names, where the first has this number
abbrev pub numbers_from : (List ℕ → Option ℕ) → ℕ → List FileUse → List ℕ → Option ℕ
numbers_from before number [] = before
numbers_from before number (f ∷ fs) = numbers_from (with_value before f.external number) (number + 1) fs

abbrev pub number_of : List FileUse → List ℕ → Option ℕ
number_of files = numbers_from holds_nothing 0 files

abbrev pub cuts_of_areas : List Cuts → List FileArea → Option Cuts
cuts_of_areas images areas = cuts_if images (first_area areas)

abbrev pub cuts_by : List Cuts → Option FileUse → Option Cuts
cuts_by images None = None
cuts_by images (Some file) = cuts_of_areas images file.areas

abbrev pub cuts_at : List Cuts → List FileUse → Option ℕ → Option Cuts
cuts_at images files None = None
cuts_at images files (Some number) = cuts_by images (slice_get files number)

-- the years of the records of the file of an external name
abbrev pub cuts_for : List Cuts → List FileUse → List ℕ → Option Cuts
cuts_for images files external = cuts_at images files (number_of files external)
