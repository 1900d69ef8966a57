-- The numbers of areas after conversion: the areas of a program go on behind those of the programs before it, each program's
-- own ones first and then those that it gets.
use Rattle.std.specs.Prelude.{ℕ, zero, suc, ◌+◌, List, [], ◌∷◌, ◌++◌, length, map, Option, Some, None, slice_get}
use Rattle.y2k_base.specs.declared.place.AreaId.{AreaId}
use Rattle.data_layout.specs.declared.item.Layout.{Layout}
use Rattle.data_layout.specs.declared.portfolio.FileArea.{FileArea}
use Rattle.data_layout.specs.declared.portfolio.FileUse.{FileUse}
use Rattle.date_uses.specs.declared.uses.DateUse.{DateUse}
use Rattle.generated_areas.specs.declared.area.GeneratedArea.{GeneratedArea}
use Rattle.generated_areas.specs.Needs.{needs}
use Rattle.window_modes.specs.declared.modes.YearMode.{YearMode}

-- so many numbers from the first on
abbrev pub count_from : ℕ → ℕ → List ℕ
count_from first zero = []
count_from first (suc n) = first ∷ count_from (first + 1) n

-- the areas that programs get, the first of which has this number
abbrev pub needs_from : List YearMode → List DateUse → ℕ → List Layout → List (List GeneratedArea)
needs_from modes uses program [] = []
needs_from modes uses program (layout ∷ layouts) = needs modes program uses ∷ needs_from modes uses (program + 1) layouts

-- the numbers of the areas that are there, where the first is the next to be given
abbrev pub numbers_from : ℕ → List Layout → List (List GeneratedArea) → List ℕ
numbers_from next [] needed = []
numbers_from next (layout ∷ layouts) [] = []
numbers_from next (layout ∷ layouts) (areas ∷ needed) =
    count_from next (length layout.areas) ++ numbers_from (next + length layout.areas + length areas) layouts needed

-- the record area of a file: that in the first program that uses it
abbrev pub first_area : List FileArea → Option AreaId
first_area [] = None
first_area (area ∷ areas) = Some area.area

abbrev pub record_area : FileUse → Option AreaId
record_area file = first_area file.areas
