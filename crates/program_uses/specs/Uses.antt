-- What is at fault in the uses of a program.
use Rattle.std.specs.Prelude.{ℕ, ◌+◌, ◌≡◌, List, [], ◌∷◌, Option, Some, None}
use Rattle.y2k_base.specs.declared.word.Word.{Word}
use Rattle.cobol_syntax.specs.declared.program.Program.{Program}
use Rattle.data_layout.specs.declared.item.Layout.{Layout}
use Rattle.data_layout.specs.Faults.{origin_at}
use Rattle.program_reader.specs.declared.fault.RefusedKind.{RefusedKind}
use Rattle.program_reader.specs.declared.fault.RefusedKind.TheVariants as refused
use Rattle.program_reader.specs.declared.fault.Refused.{Refused}
use Rattle.program_reader.specs.declared.fault.ReadFault.{ReadFault}
use Rattle.program_reader.specs.declared.fault.ReadFault.TheVariants as fault
use Rattle.operand_uses.specs.declared.fault.NameKind.{NameKind}
use Rattle.operand_uses.specs.declared.fault.NameKind.TheVariants as name
use Rattle.operand_uses.specs.declared.fault.Trouble.{Trouble}
use Rattle.operand_uses.specs.declared.fault.Trouble.TheVariants as trouble
use Rattle.operand_uses.specs.declared.fault.UseFault.{UseFault}
use Rattle.operand_uses.specs.Order.{sooner}
use Rattle.program_uses.specs.Names.{Known, no_names, with_selects, with_files, with_paragraphs}
use Rattle.program_uses.specs.Data.{selects_fault, files_fault, conds_fault}
use Rattle.program_uses.specs.Statements.{paragraphs_fault}

abbrev pub name_kind : NameKind → RefusedKind
name_kind name.Unknown = refused.NameUnknown
name_kind name.Twice = refused.NameTwice

-- a fault as it is refused: of a file without its other entry the name is the second word
abbrev pub refusal : List Word → ℕ → Trouble → Refused
refusal words owner (trouble.Place at kind) = record { kind = name_kind kind; at = origin_at words at }
refusal words owner (trouble.Name kind) = record { kind = name_kind kind; at = origin_at words owner }
refusal words owner trouble.Shape = record { kind = refused.UseShape; at = origin_at words owner }
refusal words owner trouble.File = record { kind = refused.NameUnknown; at = origin_at words (owner + 1) }

abbrev pub select_names : Program → Known
select_names program = with_selects no_names program.selects

abbrev pub file_names : Program → Known
file_names program = with_files no_names program.files

abbrev pub paragraph_names : Program → Known
paragraph_names program = with_paragraphs no_names program.paragraphs

-- the first fault of all, by the names of the SELECT entries, the files and the paragraphs
abbrev pub first_among : Layout → Known → Known → Known → Program → Option UseFault
first_among layout selects files paragraphs program =
    sooner (selects_fault layout files None program.selects)
    (sooner (files_fault layout selects None program.files)
    (sooner (conds_fault layout None layout.conds) (paragraphs_fault layout files paragraphs None program.paragraphs)))

abbrev pub first_fault : Layout → Program → Option UseFault
first_fault layout program = first_among layout (select_names program) (file_names program) (paragraph_names program) program

abbrev pub refused_if : List Word → Option UseFault → List Refused
refused_if words None = []
refused_if words (Some found) = refusal words found.owner found.trouble ∷ []

-- what is refused of a program: its first fault
abbrev pub use_faults : Layout → Program → List Refused
use_faults layout program = refused_if program.words (first_fault layout program)

abbrev pub first : List Refused → Option Refused
first [] = None
first (one ∷ others) = Some one

-- want of memory says nothing; else it is the first of these
abbrev pub IsFirstUse : ReadFault → List Refused → Type 0
IsFirstUse fault.Memory faults = Unit {0}
IsFirstUse (fault.Refused one) faults = first faults ≡ Some one
