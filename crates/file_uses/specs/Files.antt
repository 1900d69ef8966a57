-- The external files of programs, and why they can't stand.
use Rattle.std.specs.Prelude.{◌≡◌, ℕ, Bool, List, [], Option}
use Rattle.cobol_syntax.specs.declared.program.Program.{Program}
use Rattle.data_layout.specs.declared.item.Layout.{Layout}
use Rattle.data_layout.specs.declared.portfolio.FileUse.{FileUse}
use Rattle.name_tables.specs.Names.{Known, no_names, IsLeast, NonePasses}
use Rattle.portfolio.specs.declared.manifest.Named.{Named}
use Rattle.file_uses.specs.declared.fault.FileFault.{FileFault}
use Rattle.file_uses.specs.declared.fault.FileFault.TheVariants as fault
use Rattle.file_uses.specs.Names.{is_known, name_of, with_names, unknown_by}
use Rattle.file_uses.specs.Records.{records_from, with_records, unlike}

abbrev pub files_by : (List ℕ → List ℕ) → List Program → List Layout → List FileUse
files_by names programs layouts = with_records names [] (records_from 0 programs layouts)

-- the names of files whose records have unlike lengths
abbrev pub unlike_by : (List ℕ → List ℕ) → List Program → List Layout → Known
unlike_by names programs layouts =
    with_names no_names (unlike (files_by names programs layouts) (records_from 0 programs layouts))

-- one file for each external name, in the order of their first SELECT entries
abbrev pub files_of : Option (List Named) → List Program → List Layout → List FileUse
files_of files programs layouts = files_by (name_of files) programs layouts

-- which external names aren't known, are selected twice in a program, or are known and selected by no program
abbrev pub unknown_files : Option (List Named) → List Program → Known
unknown_files files programs = unknown_by (is_known files) files programs

-- which files have records of another length in one program than in another
abbrev pub unlike_files : Option (List Named) → List Program → List Layout → Known
unlike_files files programs layouts = unlike_by (name_of files) programs layouts

abbrev pub IsUnknown : Known → FileFault → Type 0
IsUnknown names (fault.Unknown name) = IsLeast names name
IsUnknown names (fault.Lengths name) = ⊥
IsUnknown names fault.Memory = Unit {0}

abbrev pub AreUnlike : Known → FileFault → Type 0
AreUnlike names (fault.Unknown name) = ⊥
AreUnlike names (fault.Lengths name) = IsLeast names name
AreUnlike names fault.Memory = Unit {0}

-- the least name at fault; lengths are looked at where all names are right
abbrev pub HasFileFault : Option (List Named) → List Program → List Layout → FileFault → Type 0
HasFileFault files programs layouts (fault.Unknown name) = IsLeast (unknown_files files programs) name
HasFileFault files programs layouts (fault.Lengths name) =
    NonePasses (unknown_files files programs) × IsLeast (unlike_files files programs layouts) name
HasFileFault files programs layouts fault.Memory = Unit {0}
