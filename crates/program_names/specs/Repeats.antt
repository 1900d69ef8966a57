-- Names that may stand once: that of a program among all programs, and in a program those of its SELECT entries,
-- those of its file descriptions, and those of its sections and paragraphs.
use Rattle.std.specs.Prelude.{◌≡◌, ℕ, ◌+◌, List, [], ◌∷◌, ◌++◌, Option, Some, None, if◌then◌else◌, Result, Ok, Err}
use Rattle.y2k_base.specs.declared.word.Word.{Word}
use Rattle.cobol_syntax.specs.declared.program.Program.{Program}
use Rattle.cobol_syntax.specs.declared.program.Select.{Select}
use Rattle.cobol_syntax.specs.declared.program.FileEntry.{FileEntry}
use Rattle.cobol_syntax.specs.declared.program.Paragraph.{Paragraph}
use Rattle.data_layout.specs.Faults.{origin_at}
use Rattle.name_tables.specs.Names.{Known, no_names, with_name}
use Rattle.program_reader.specs.declared.fault.ReadFault.{ReadFault}
use Rattle.program_reader.specs.declared.fault.ReadFault.TheVariants as fault
use Rattle.program_reader.specs.declared.fault.Refused.{Refused}
use Rattle.program_reader.specs.declared.fault.RefusedKind.{RefusedKind}
use Rattle.program_reader.specs.declared.fault.RefusedKind.TheVariants as kind

-- a refusal at the word of a position
abbrev pub refusal : RefusedKind → List Word → ℕ → Refused
refusal kind words at = record { kind = kind; at = origin_at words at }

abbrev pub twice : List Word → ℕ → Refused
twice words at = refusal kind.NameTwice words at

-- the names that are known already, or stand before in the list
abbrev pub repeated : {A : Type 0} → (A → List ℕ) → (A → ℕ) → List Word → Known → List A → List Refused
repeated name place words known [] = []
repeated name place words known (x ∷ xs) =
    (if known (name x) then twice words (place x) ∷ [] else []) ++ repeated name place words (with_name known (name x)) xs

-- SELECT and FD stand before the name, and nothing before that of a section or paragraph
abbrev pub select_name : Select → List ℕ
select_name s = s.name

abbrev pub select_place : Select → ℕ
select_place s = s.at + 1

abbrev pub file_name : FileEntry → List ℕ
file_name f = f.name

abbrev pub file_place : FileEntry → ℕ
file_place f = f.at + 1

abbrev pub paragraph_name : Paragraph → List ℕ
paragraph_name p = p.name

abbrev pub paragraph_place : Paragraph → ℕ
paragraph_place p = p.at

-- the name of a program that another before it has; five words stand before it
abbrev pub id_faults : Known → Program → List Refused
id_faults others program = if others program.id then twice program.words 5 ∷ [] else []

-- all in text order
abbrev pub name_faults : Known → Program → List Refused
name_faults others program =
    id_faults others program
    ++ (repeated select_name select_place program.words no_names program.selects
    ++ (repeated file_name file_place program.words no_names program.files
    ++ repeated paragraph_name paragraph_place program.words no_names program.paragraphs))

abbrev pub first : List Refused → Option Refused
first [] = None
first (x ∷ xs) = Some x

-- the fault is the first of these; want of memory says nothing of them
abbrev pub IsFirst : ReadFault → List Refused → Type 0
IsFirst (fault.Refused refused) fs = first fs ≡ Some refused
IsFirst fault.Memory fs = Unit {0}

-- a check answers that there are no faults, or the first
abbrev pub Tells : {A : Type 0} → Result A ReadFault → List Refused → Type 0
Tells (Ok value) fs = fs ≡ []
Tells (Err fault) fs = IsFirst fault fs
