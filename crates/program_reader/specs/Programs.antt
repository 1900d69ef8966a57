-- How the divisions of a program are read, unit by unit.
use Rattle.std.specs.Prelude.{ℕ, zero, suc, ◌+◌, Bool, true, false, nat_lt, ◌-◌, ◌==◌, if◌then◌else◌, List, [], ◌∷◌, Option, Some, None, Result, Ok, Err, length, slice_get}
use Rattle.cobol_syntax.specs.declared.program.Entry.{Entry}
use Rattle.cobol_syntax.specs.declared.program.FileEntry.{FileEntry}
use Rattle.cobol_syntax.specs.declared.program.Select.{Select}
use Rattle.cond_reader.specs.declared.symbol.Symbol.TheVariants as s
use Rattle.cond_reader.specs.Text.{sees}
use Rattle.cond_reader.specs.Reads.{with_last}
use Rattle.program_reader.specs.UnitFaults.{fault}
use Rattle.program_reader.specs.declared.data.Data.{Data}
use Rattle.program_reader.specs.declared.entry.Draft.{Draft}
use Rattle.program_reader.specs.declared.fault.Refused.{Refused}
use Rattle.program_reader.specs.declared.reading.Reading.{Reading}
use Rattle.program_reader.specs.declared.reading.Reading.TheVariants as reading
use Rattle.program_reader.specs.declared.term.Term.{Term}
use Rattle.program_reader.specs.declared.term.Term.TheVariants as k
use Rattle.program_reader.specs.Views.{View, has, header, headers, named}
use Rattle.program_reader.specs.Selects.{select}
use Rattle.program_reader.specs.Files.{file}
use Rattle.program_reader.specs.Entries.{entry}

-- what units read as, with the position after them; or why the first that has no reading is refused
abbrev pub Outcome : Type 0 → Type 0
Outcome A = Result (A × ℕ) Refused

-- one part, and then what depends on it
abbrev pub so : {A B : Type 0} → Result (A × ℕ) Refused → (A → ℕ → Result B Refused) → Result B Refused
so (Err refused) f = Err refused
so (Ok p) f = f p.0 p.1

-- the same for a part without a value
abbrev pub so_at : {B : Type 0} → Result ℕ Refused → (ℕ → Result B Refused) → Result B Refused
so_at (Err refused) f = Err refused
so_at (Ok j) f = f j

-- a part that may be left out, by the header with which it begins
abbrev pub if_there : {B : Type 0} → Option ℕ → B → (ℕ → B) → B
if_there None without f = without
if_there (Some j) without f = f j

-- as many parts as begin, each added to what is read so far; the number bounds their count
unfoldable pub each : {A : Type 0} → (ℕ → Bool) → (A → ℕ → Result (A × ℕ) Refused) → ℕ → A → ℕ → Result (A × ℕ) Refused
each begins next zero a i = Ok (a, i)
each begins next (suc n) a i = if begins i then so (next a i) (λ b j. each begins next n b j) else Ok (a, i)

abbrev pub with_entries : FileEntry → List Entry → FileEntry
with_entries f es = record f { entries = es }

module _ (v : View) where
  abbrev pub required_at : {A : Type 0} → Option A → ℕ → Result A Refused
  required_at None i = Err (fault v i)
  required_at (Some a) i = Ok a

  unfoldable pub required : Option ℕ → ℕ → Result ℕ Refused
  required found i = required_at found i

  unfoldable pub name_unit : ℕ → Outcome (List ℕ)
  name_unit i = required_at (named v i) i

  unfoldable pub select_unit : ℕ → Outcome Select
  select_unit i = required_at (select v i) i

  unfoldable pub file_unit : ℕ → Outcome FileEntry
  file_unit i = required_at (file v i) i

  abbrev pub with_reading : Entry → Option Reading → Result Entry Refused
  with_reading e None = Ok e
  with_reading e (Some reading.Plain) = Ok e
  with_reading e (Some (reading.Picture picture)) = Ok (record e { picture = Some picture })
  with_reading e (Some (reading.Refused refused)) = Err refused

  unfoldable pub with_picture : Entry → Result Entry Refused
  with_picture e = with_reading e (slice_get v.readings e.picture_at)

  unfoldable pub pictured : Draft → Result Entry Refused
  pictured d = if d.has_picture then with_picture d.entry else Ok d.entry

  abbrev pub before_next : Result Entry Refused → ℕ → Outcome Entry
  before_next (Err refused) j = Err refused
  before_next (Ok e) j = Ok (e, j)

  unfoldable pub entry_unit : ℕ → Outcome Entry
  entry_unit i = so (required_at (entry v i) i) (λ d j. before_next (pictured d) j)

  unfoldable pub program_id : ℕ → Outcome (List ℕ)
  program_id i = so_at (required (header v k.ProgramId i) i) name_unit

  unfoldable pub identification : ℕ → Outcome (List ℕ)
  identification i = so_at (required (headers v k.Identification k.Division i) i) program_id

  unfoldable pub computer : Term → ℕ → Result ℕ Refused
  computer k i = if_there (header v k i) (Ok i) (λ j. so (name_unit j) (λ n m. Ok m))

  unfoldable pub configuration : ℕ → Result ℕ Refused
  configuration i =
      if_there (headers v k.Configuration k.Section i) (Ok i) (λ j. so_at (computer k.SourceComputer j) (computer k.ObjectComputer))

  unfoldable pub next_select : List Select → ℕ → Outcome (List Select)
  next_select ss i = so (select_unit i) (λ x j. Ok (with_last ss x, j))

  unfoldable pub more_selects : List Select → ℕ → Outcome (List Select)
  more_selects = each (has v k.Select) next_select (length v.terms)

  unfoldable pub input_output : ℕ → Outcome (List Select)
  input_output i =
      if_there (headers v k.InputOutput k.Section i) (Ok ([], i)) (λ j. so_at (required (header v k.FileControl j) j) (more_selects []))

  unfoldable pub environment : ℕ → Outcome (List Select)
  environment i =
      if_there (headers v k.Environment k.Division i) (Ok ([], i)) (λ j. so_at (configuration j) input_output)

  unfoldable pub next_entry : List Entry → ℕ → Outcome (List Entry)
  next_entry es i = so (entry_unit i) (λ x j. Ok (with_last es x, j))

  unfoldable pub more_entries : List Entry → ℕ → Outcome (List Entry)
  more_entries = each (sees v.text s.Number) next_entry (length v.terms)

  unfoldable pub records : FileEntry → ℕ → Outcome FileEntry
  records f i = so (next_entry [] i) (λ first j. so (more_entries first j) (λ es m. Ok (with_entries f es, m)))

  unfoldable pub file_with_records : ℕ → Outcome FileEntry
  file_with_records i = so (file_unit i) records

  unfoldable pub next_file : List FileEntry → ℕ → Outcome (List FileEntry)
  next_file fs i = so (file_with_records i) (λ x j. Ok (with_last fs x, j))

  unfoldable pub more_files : List FileEntry → ℕ → Outcome (List FileEntry)
  more_files = each (has v k.Fd) next_file (length v.terms)

  unfoldable pub file_section : ℕ → Outcome (List FileEntry)
  file_section i = if_there (headers v k.File k.Section i) (Ok ([], i)) (more_files [])

  unfoldable pub storage_section : ℕ → Outcome (List Entry)
  storage_section i = if_there (headers v k.WorkingStorage k.Section i) (Ok ([], i)) (more_entries [])

  unfoldable pub data_sections : ℕ → Outcome Data
  data_sections i =
      so (file_section i) (λ fs j. so (storage_section j) (λ es m. Ok (record { files = fs; storage = es }, m)))

  unfoldable pub data_division : ℕ → Outcome Data
  data_division i =
      if_there (headers v k.Data k.Division i) (Ok (record { files = []; storage = [] }, i)) data_sections
