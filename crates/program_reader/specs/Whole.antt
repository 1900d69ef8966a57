-- How a whole program is read.
use Rattle.std.specs.Prelude.{◌≡◌, ℕ, ◌==◌, if◌then◌else◌, List, [], ◌∷◌, ◌++◌, map, Option, Some, None, Result, Ok, Err}
use Rattle.y2k_base.specs.declared.word.Word.{Word}
use Rattle.y2k_base.specs.declared.word.FileId.{FileId}
use Rattle.cobol_syntax.specs.declared.program.Entry.{Entry}
use Rattle.cobol_syntax.specs.declared.program.FileEntry.{FileEntry}
use Rattle.cobol_syntax.specs.declared.program.Paragraph.{Paragraph}
use Rattle.cobol_syntax.specs.declared.program.Program.{Program}
use Rattle.cobol_syntax.specs.declared.program.Select.{Select}
use Rattle.cond_reader.specs.Kinds.{text_with}
use Rattle.proc_reader.specs.Keywords.{keyword_of}
use Rattle.proc_reader.specs.Source.{Source}
use Rattle.program_reader.specs.declared.data.Data.{Data}
use Rattle.program_reader.specs.declared.fault.ReadFault.{ReadFault}
use Rattle.program_reader.specs.declared.fault.ReadFault.TheVariants as fault
use Rattle.program_reader.specs.declared.fault.Refused.{Refused}
use Rattle.program_reader.specs.declared.read.Opening.{Opening}
use Rattle.program_reader.specs.declared.reading.Reading.{Reading}
use Rattle.program_reader.specs.Readings.{AreReadings}
use Rattle.program_reader.specs.Terms.{term_of}
use Rattle.program_reader.specs.Views.{View}
use Rattle.program_reader.specs.Programs.{Outcome, so, identification, environment, data_division}
use Rattle.program_reader.specs.Procedures.{procedure}

abbrev pub as_list : Option (List ℕ) → List (List ℕ)
as_list None = []
as_list (Some name) = name ∷ []

-- the name of an entry of level 88
abbrev pub name_of : Entry → List (List ℕ)
name_of e = if e.level == 88 then as_list e.name else []

abbrev pub names_of : List Entry → List (List ℕ)
names_of [] = []
names_of (e ∷ es) = name_of e ++ names_of es

abbrev pub file_names : List FileEntry → List (List ℕ)
file_names [] = []
file_names (f ∷ fs) = names_of f.entries ++ file_names fs

-- the condition-names of a data division
unfoldable pub cond_names : Data → List (List ℕ)
cond_names d = file_names d.files ++ names_of d.storage

abbrev pub program_of : List Word → List ℕ → List Select → Data → List Paragraph → Program
program_of words id selects d paragraphs =
    record { id = id; words = words; selects = selects; files = d.files; storage = d.storage; paragraphs = paragraphs }

abbrev pub program_after : List Word → Opening → List Paragraph → Program
program_after words o paragraphs = program_of words o.id o.selects o.division paragraphs

abbrev pub source_with : List Word → List (List ℕ) → ℕ → Source
source_with words names program = record { text = text_with words names; keywords = map keyword_of words; program = program }

-- the words before the procedure division, with what their pictures read as
abbrev pub view_with : List Word → List Reading → FileId → View
view_with words readings file = record { text = text_with words []; terms = map term_of words; readings = readings; file = file }

module _ (v : View) where
  unfoldable pub opening_data : List ℕ → List Select → ℕ → Outcome Opening
  opening_data id selects i = so (data_division v i) (λ d j. Ok (record { id = id; selects = selects; division = d }, j))

  unfoldable pub opening_rest : List ℕ → ℕ → Outcome Opening
  opening_rest id i = so (environment v i) (λ selects j. opening_data id selects j)

  unfoldable pub opening : Outcome Opening
  opening = so (identification v 0) (λ id j. opening_rest id j)

  unfoldable pub procedure_with : List (List ℕ) → ℕ → ℕ → Result (List Paragraph) Refused
  procedure_with names program i = procedure v (source_with v.text.words names program) i

  abbrev pub after_opening : Opening → Result (List Paragraph) Refused → Result Program Refused
  after_opening o (Err refused) = Err refused
  after_opening o (Ok paragraphs) = Ok (program_after v.text.words o paragraphs)

  unfoldable pub whole : ℕ → Result Program Refused
  whole program = so opening (λ o j. after_opening o (procedure_with (cond_names o.division) program j))

-- what reading the words answers
pub record IsAnswer (words : List Word) (program : ℕ) (file : FileId) (answer : Result Program Refused) : Type 0 where
  pub readings : List Reading
  pub are_readings : AreReadings words readings
  pub is : answer ≡ whole (view_with words readings file) program

abbrev pub IsRefusal : List Word → ℕ → FileId → ReadFault → Type 0
IsRefusal words program file (fault.Refused refused) = IsAnswer words program file (Err refused)
IsRefusal words program file fault.Memory = Unit {0}
