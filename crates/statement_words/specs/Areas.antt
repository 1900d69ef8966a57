-- The edit that puts the entries of areas in front of the word PROCEDURE.
use Rattle.std.specs.Prelude.{ℕ, List, [], ◌∷◌, ◌++◌, Option, Some, None, codes, slice_get, if◌then◌else◌}
use Rattle.y2k_base.specs.declared.edit.Edit.{Edit}
use Rattle.y2k_base.specs.declared.picture.Run.{Run}
use Rattle.y2k_base.specs.declared.word.Origin.{Origin}
use Rattle.y2k_base.specs.declared.word.Word.{Word}
use Rattle.y2k_base.specs.declared.word.WordKind.TheVariants as kinds
use Rattle.picture.specs.Printing.{printed}
use Rattle.generated_areas.specs.declared.area.GeneratedArea.{GeneratedArea}
use Rattle.generated_areas.specs.Areas.{area_digits, area_name}
use Rattle.statement_words.specs.NewWords.{made, text_words, procedure_at, has_storage}

-- nines, as many as it has digits
abbrev pub area_runs : GeneratedArea → List Run
area_runs area = record { symbol = 57; count = area_digits area } ∷ []

-- 01, its name, PIC, its picture and a period
abbrev pub entry : Origin → GeneratedArea → List Word
entry origin area =
    made origin kinds.Number (codes "01")
    ∷ (made origin kinds.Name (area_name area)
    ∷ (made origin kinds.Name (codes "PIC")
    ∷ (made origin kinds.Picture (printed (area_runs area))
    ∷ (made origin kinds.Mark (codes ".") ∷ []))))

abbrev pub entries : Origin → List GeneratedArea → List Word
entries origin [] = []
entries origin (area ∷ areas) = entry origin area ++ entries origin areas

-- the header of the working storage section, where the program has none
abbrev pub header : Origin → List Word → List Word
header origin words = if has_storage words then [] else text_words origin (codes "WORKING-STORAGE SECTION .")

-- what stands in place of PROCEDURE at that origin
abbrev pub area_words : Origin → List Word → List GeneratedArea → List Word
area_words origin words areas = header origin words ++ (entries origin areas ++ (made origin kinds.Name (codes "PROCEDURE") ∷ []))

abbrev pub areas_at_word : ℕ → List Word → List GeneratedArea → ℕ → Option Word → List Edit
areas_at_word program words areas position None = []
areas_at_word program words areas position (Some word) =
    record { program = program; position = position; at = word.origin; words = area_words word.origin words areas } ∷ []

abbrev pub areas_at : ℕ → List Word → List GeneratedArea → Option ℕ → List Edit
areas_at program words areas None = []
areas_at program words areas (Some position) = areas_at_word program words areas position (slice_get words position)

-- no areas give no edit
abbrev pub areas_edits : ℕ → List Word → List GeneratedArea → List Edit
areas_edits program words [] = []
areas_edits program words (area ∷ areas) = areas_at program words (area ∷ areas) (procedure_at words)
