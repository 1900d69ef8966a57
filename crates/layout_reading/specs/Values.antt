-- The VALUE clauses of the items of a program. Items are numbered in the order of their entries, and each entry
-- that isn't a condition-name is an item.
use Rattle.std.specs.Prelude.{ℕ, zero, suc, List, [], ◌∷◌, ◌++◌, Option, None, if◌then◌else◌}
use Rattle.cobol_syntax.specs.declared.program.Entry.{Entry}
use Rattle.cobol_syntax.specs.declared.program.FileEntry.{FileEntry}
use Rattle.cobol_syntax.specs.declared.program.Program.{Program}
use Rattle.data_layout.specs.Sizes.{is_named}
use Rattle.program_meaning.specs.Tree.{Operand}
use Rattle.tree_reading.specs.Reading.{operand_if}

abbrev pub values_in : List Entry → List (Option Operand)
values_in [] = []
values_in (e ∷ es) = if is_named e then values_in es else operand_if e.value ∷ values_in es

abbrev pub values_in_files : List FileEntry → List (Option Operand)
values_in_files [] = []
values_in_files (file ∷ files) = values_in file.entries ++ values_in_files files

-- the VALUE of each item
abbrev pub values_of : Program → List (Option Operand)
values_of program = values_in_files program.files ++ values_in program.storage

-- the first one, and the others
abbrev pub first_value : List (Option Operand) → Option Operand
first_value [] = None
first_value (v ∷ vs) = v

abbrev pub other_values : List (Option Operand) → List (Option Operand)
other_values [] = []
other_values (v ∷ vs) = vs

-- that of the item with this number
abbrev pub value_at : List (Option Operand) → ℕ → Option Operand
value_at vs zero = first_value vs
value_at vs (suc k) = value_at (other_values vs) k
