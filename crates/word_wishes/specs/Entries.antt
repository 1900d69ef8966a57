-- What entries want: PICTUREs, RECORD CONTAINS, and the references of FILE STATUS.
use Rattle.std.specs.Prelude.{ℕ, List, [], ◌∷◌, ◌++◌, Option, Some, None, if◌then◌else◌}
use Rattle.y2k_base.specs.declared.edit.Edit.{Edit}
use Rattle.y2k_base.specs.declared.picture.Picture.{Picture}
use Rattle.y2k_base.specs.declared.word.Word.{Word}
use Rattle.y2k_base.specs.declared.word.WordKind.TheVariants as kinds
use Rattle.picture.specs.Printing.{printed}
use Rattle.cobol_syntax.specs.declared.expr.Operand.{Operand}
use Rattle.cobol_syntax.specs.declared.expr.Operand.TheVariants as operand
use Rattle.cobol_syntax.specs.declared.place.Place.{Place}
use Rattle.cobol_syntax.specs.declared.program.FileEntry.{FileEntry}
use Rattle.cobol_syntax.specs.declared.program.Program.{Program}
use Rattle.cobol_syntax.specs.declared.program.Select.{Select}
use Rattle.data_layout.specs.declared.item.Area.{Area}
use Rattle.data_layout.specs.declared.item.Item.{Item}
use Rattle.data_layout.specs.declared.item.Layout.{Layout}
use Rattle.statement_rules.specs.Statements.{area_span}
use Rattle.window_modes.specs.declared.modes.YearMode.{YearMode}
use Rattle.date_uses.specs.Places.{place_used}
use Rattle.picture_images.specs.Images.{picture_image}
use Rattle.word_wishes.specs.declared.positions.Sought.TheVariants as sought
use Rattle.word_wishes.specs.Grown.{grows, new_number}
use Rattle.word_wishes.specs.Positions.{position_from}
use Rattle.word_wishes.specs.References.{reference_wishes}
use Rattle.word_wishes.specs.Wishes.{wanted_instead, wanted_number}

-- the PICTURE word of an entry is the first behind its level number
abbrev pub picture_at : ℕ → List Word → Picture → Option ℕ → List Edit
picture_at program words picture None = []
picture_at program words picture (Some position) = wanted_instead program words position kinds.Picture (printed picture.runs)

abbrev pub picture_if : ℕ → List Word → ℕ → Option Picture → List Edit
picture_if program words at None = []
picture_if program words at (Some picture) = picture_at program words picture (position_from sought.Picture words at)

-- an item that stays as long as it is keeps its PICTURE as it is written
abbrev pub picture_wishes : List YearMode → ℕ → List Word → Item → List Edit
picture_wishes modes program words item =
    if grows modes item.span then picture_if program words item.entry_at (picture_image modes item) else []

abbrev pub pictures_wishes : List YearMode → ℕ → List Word → List Item → List Edit
pictures_wishes modes program words [] = []
pictures_wishes modes program words (item ∷ items) = picture_wishes modes program words item ++ pictures_wishes modes program words items

abbrev pub number_at : Operand → Option ℕ
number_at (operand.Place place) = None
number_at (operand.Number value digits at) = Some at
number_at (operand.Text bytes at) = None
number_at (operand.Figure byte at) = None

abbrev pub number_at_if : Option Operand → Option ℕ
number_at_if None = None
number_at_if (Some number) = number_at number

abbrev pub contains_over : List YearMode → ℕ → List Word → Area → Option ℕ → List Edit
contains_over modes program words area None = []
contains_over modes program words area (Some position) = wanted_number program words position (new_number modes (area_span area) 0)

abbrev pub contains_wishes : List YearMode → ℕ → List Word → FileEntry → Area → List Edit
contains_wishes modes program words file area = contains_over modes program words area (number_at_if file.contains)

-- the record areas of the files come first among the areas
abbrev pub files_wishes : List YearMode → ℕ → List Word → List FileEntry → List Area → List Edit
files_wishes modes program words [] areas = []
files_wishes modes program words (file ∷ files) [] = []
files_wishes modes program words (file ∷ files) (area ∷ areas) =
    contains_wishes modes program words file area ++ files_wishes modes program words files areas

abbrev pub status_wishes : List YearMode → ℕ → List Word → Layout → Option Place → List Edit
status_wishes modes program words layout None = []
status_wishes modes program words layout (Some place) = reference_wishes modes program words layout.items (place_used layout place)

abbrev pub selects_wishes : List YearMode → ℕ → List Word → Layout → List Select → List Edit
selects_wishes modes program words layout [] = []
selects_wishes modes program words layout (select ∷ selects) =
    status_wishes modes program words layout select.status ++ selects_wishes modes program words layout selects

abbrev pub entries_wishes : List YearMode → ℕ → Program → Layout → List Edit
entries_wishes modes number program layout =
    selects_wishes modes number program.words layout program.selects
    ++ (files_wishes modes number program.words program.files layout.areas
    ++ pictures_wishes modes number program.words layout.items)
