-- The numbers of names: those of the external files, and those of the FDs of a program.
use Rattle.std.specs.Prelude.{ℕ, ◌+◌, List, [], ◌∷◌, Option, Some, None}
use Rattle.cobol_syntax.specs.declared.program.FileEntry.{FileEntry}
use Rattle.data_layout.specs.declared.portfolio.FileUse.{FileUse}
use Rattle.name_tables.specs.Table.{held, holds_nothing, with_value}
use Rattle.program_channels.specs.declared.numbers.Numbers.{Numbers}

-- the number that each external name has, where the first of these has this number; of several of one name the first
abbrev pub numbers_of_files : ℕ → List FileUse → List ℕ → Option ℕ
numbers_of_files number [] = holds_nothing
numbers_of_files number (file ∷ files) = with_value (numbers_of_files (number + 1) files) file.external number

-- the same of the FDs
abbrev pub numbers_of_entries : ℕ → List FileEntry → List ℕ → Option ℕ
numbers_of_entries number [] = holds_nothing
numbers_of_entries number (entry ∷ entries) = with_value (numbers_of_entries (number + 1) entries) entry.name number

abbrev pub number_or : ℕ → Option ℕ → ℕ
number_or count None = count
number_or count (Some number) = number

-- a name that isn't there has the number after the last one
abbrev pub number_in : Numbers → List ℕ → ℕ
number_in numbers name = number_or numbers.count (held numbers.table name)
