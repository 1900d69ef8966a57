-- The uses of entries: VALUEs, and the values of condition-names.
use Rattle.std.specs.Prelude.{ℕ, ◌+◌, List, [], ◌∷◌, ◌++◌, Option, Some, None, slice_get, if◌then◌else◌}
use Rattle.y2k_base.specs.declared.word.Word.{Word}
use Rattle.cobol_syntax.specs.declared.expr.Operand.{Operand}
use Rattle.cobol_syntax.specs.declared.program.Entry.{Entry}
use Rattle.cobol_syntax.specs.declared.program.FileEntry.{FileEntry}
use Rattle.cobol_syntax.specs.declared.program.Program.{Program}
use Rattle.cobol_syntax.specs.declared.program.Range.{Range}
use Rattle.data_layout.specs.declared.item.CondItem.{CondItem}
use Rattle.data_layout.specs.declared.item.Item.{Item}
use Rattle.data_layout.specs.declared.item.Layout.{Layout}
use Rattle.data_layout.specs.Sizes.{is_named}
use Rattle.date_uses.specs.declared.uses.DateUse.{DateUse}
use Rattle.date_uses.specs.declared.uses.UseForm.TheVariants as forms
use Rattle.date_uses.specs.declared.places.Spot.{Spot}
use Rattle.date_uses.specs.Places.{spot_of, use_at, operand_used, operand_used_if, item_used}

-- the VALUE of an item, at its entry
abbrev pub value_use : ℕ → List Word → Layout → ℕ → Option Item → Option Operand → List DateUse
value_use program words layout number None value = []
value_use program words layout number (Some item) None = []
value_use program words layout number (Some item) (Some value) =
    use_at (spot_of program words item.entry_at) (forms.Value (item_used number item) (operand_used layout value)) ∷ []

-- an entry is that of the item of this number, or of a condition-name
abbrev pub entry_use : ℕ → List Word → Layout → ℕ → Entry → List DateUse
entry_use program words layout number e =
    if is_named e then [] else value_use program words layout number (slice_get layout.items number) e.value

-- the number of the next item
abbrev pub number_after : ℕ → Entry → ℕ
number_after number e = if is_named e then number else number + 1

-- entries, of which the first that is no condition-name is that of the item of this number
abbrev pub entries_uses : ℕ → List Word → Layout → ℕ → List Entry → List DateUse
entries_uses program words layout number [] = []
entries_uses program words layout number (e ∷ entries) =
    entry_use program words layout number e ++ entries_uses program words layout (number_after number e) entries

abbrev pub number_behind : ℕ → List Entry → ℕ
number_behind number [] = number
number_behind number (e ∷ entries) = number_behind (number_after number e) entries

abbrev pub files_uses : ℕ → List Word → Layout → ℕ → List FileEntry → List DateUse
files_uses program words layout number [] = []
files_uses program words layout number (file ∷ files) =
    entries_uses program words layout number file.entries
    ++ files_uses program words layout (number_behind number file.entries) files

abbrev pub number_behind_files : ℕ → List FileEntry → ℕ
number_behind_files number [] = number
number_behind_files number (file ∷ files) = number_behind_files (number_behind number file.entries) files

-- the VALUEs of a program
abbrev pub values_uses : ℕ → Program → Layout → List DateUse
values_uses program tree layout =
    files_uses program tree.words layout 0 tree.files
    ++ entries_uses program tree.words layout (number_behind_files 0 tree.files) tree.storage

abbrev pub range_use : Layout → Spot → ℕ → Item → Range → DateUse
range_use layout spot number item range =
    use_at spot (forms.Range (item_used number item) (operand_used layout range.low) (operand_used_if layout range.high))

abbrev pub ranges_uses : Layout → Spot → ℕ → Item → List Range → List DateUse
ranges_uses layout spot number item [] = []
ranges_uses layout spot number item (range ∷ ranges) = range_use layout spot number item range ∷ ranges_uses layout spot number item ranges

abbrev pub ranges_uses_if : Layout → Spot → ℕ → Option Item → List Range → List DateUse
ranges_uses_if layout spot number None ranges = []
ranges_uses_if layout spot number (Some item) ranges = ranges_uses layout spot number item ranges

-- a condition-name, at its own entry
abbrev pub cond_uses : ℕ → List Word → Layout → CondItem → List DateUse
cond_uses program words layout c =
    ranges_uses_if layout (spot_of program words c.entry_at) c.item (slice_get layout.items c.item) c.ranges

abbrev pub conds_uses : ℕ → List Word → Layout → List CondItem → List DateUse
conds_uses program words layout [] = []
conds_uses program words layout (c ∷ conds) = cond_uses program words layout c ++ conds_uses program words layout conds
