-- The grammar of whole programs, one case for each production. A unit is the words up to and with a period.
use Rattle.std.specs.Prelude.{◌≡◌, ◌≢◌, ℕ, Bool, true, false, List, [], ◌∷◌, Option, Some, None}
use Rattle.y2k_base.specs.declared.picture.Picture.{Picture}
use Rattle.y2k_base.specs.declared.word.Word.{Word}
use Rattle.picture.specs.Faults.{IsReading}
use Rattle.cobol_syntax.specs.declared.program.Entry.{Entry}
use Rattle.cobol_syntax.specs.declared.program.FileEntry.{FileEntry}
use Rattle.cobol_syntax.specs.declared.program.Paragraph.{Paragraph}
use Rattle.cobol_syntax.specs.declared.program.Program.{Program}
use Rattle.cobol_syntax.specs.declared.program.Select.{Select}
use Rattle.cobol_syntax.specs.declared.program.Sentence.{Sentence}
use Rattle.cond_reader.specs.declared.symbol.Symbol.TheVariants as s
use Rattle.cond_reader.specs.Text.{symbol, spelling}
use Rattle.cond_reader.specs.Reads.{with_last}
use Rattle.cond_reader.specs.Grammar.{Name, Many, Chain, alone}
use Rattle.proc_reader.specs.declared.spot.Spot.{Spot}
use Rattle.program_reader.specs.declared.data.Data.{Data}
use Rattle.program_reader.specs.declared.entry.Draft.{Draft}
use Rattle.program_reader.specs.declared.procedure.Heading.{Heading}
use Rattle.program_reader.specs.declared.term.Term.{Term}
use Rattle.program_reader.specs.declared.term.Term.TheVariants as k
use Rattle.program_reader.specs.Views.{View}
use Rattle.program_reader.specs.Programs.{with_entries}
use Rattle.program_reader.specs.Whole.{cond_names, program_of}
use Rattle.program_reader.specs.Grammar.{Then, Maybe, A, Period, AnyName, Header, Headers, NameUnit}
use Rattle.program_reader.specs.EntryGrammar.{IsSelect, IsFile, IsDraft}

module _ (v : View) where
  -- (IDENTIFICATION|ID) DIVISION . PROGRAM-ID . name .
  pub record Identification (i j : ℕ) (id : List ℕ) : Type 0 where
    pub at_name : ℕ
    pub headers : Then (Headers v k.Identification k.Division) (Header v k.ProgramId) i at_name
    pub name : NameUnit v at_name j id

  -- (SOURCE-COMPUTER . name .)?
  abbrev pub Computer : Term → ℕ → ℕ → Type 0
  Computer term = Maybe (Then (Header v term) (Then (AnyName v) (Period v)))

  -- (CONFIGURATION SECTION . (SOURCE-COMPUTER . name .)? (OBJECT-COMPUTER . name .)?)?
  abbrev pub Configuration : ℕ → ℕ → Type 0
  Configuration = Maybe (Then (Headers v k.Configuration k.Section) (Then (Computer k.SourceComputer) (Computer k.ObjectComputer)))

  -- (INPUT-OUTPUT SECTION . FILE-CONTROL . select*)?
  pub data InputOutput : ℕ → ℕ → List Select → Type 0 where
    absent : {i : ℕ} → InputOutput i i []
    given : {i m j : ℕ} {ss : List Select} → Then (Headers v k.InputOutput k.Section) (Header v k.FileControl) i m
        → Many (IsSelect v) with_last [] m j ss → InputOutput i j ss

  -- (ENVIRONMENT DIVISION . configuration input-output)?
  pub data Environment : ℕ → ℕ → List Select → Type 0 where
    absent : {i : ℕ} → Environment i i []
    given : {i m j : ℕ} {ss : List Select} → Then (Headers v k.Environment k.Division) Configuration i m → InputOutput m j ss → Environment i j ss

  -- an entry with the picture that its PICTURE string reads as
  pub data IsPictured (d : Draft) : Entry → Type 0 where
    plain : d.has_picture ≡ false → IsPictured d d.entry
    pictured : {p : Picture} → d.has_picture ≡ true → IsReading (spelling v.text d.entry.picture_at) p → IsPictured d (record (d.entry) { picture = Some p })

  pub record IsEntry (i j : ℕ) (e : Entry) : Type 0 where
    pub draft : Draft
    pub is_draft : IsDraft v i j draft
    pub picture : IsPictured draft e

  -- fd entry+
  pub record FileWithRecords (i j : ℕ) (f : FileEntry) : Type 0 where
    pub middle : ℕ
    pub head : FileEntry
    pub es : List Entry
    pub file : IsFile v i middle head
    pub entries : Chain IsEntry alone IsEntry with_last middle j es
    pub is : f ≡ with_entries head es

  -- (FILE SECTION . (fd entry+)*)?
  pub data FileSection : ℕ → ℕ → List FileEntry → Type 0 where
    absent : {i : ℕ} → FileSection i i []
    given : {i m j : ℕ} {fs : List FileEntry} → Headers v k.File k.Section i m → Many FileWithRecords with_last [] m j fs → FileSection i j fs

  -- (WORKING-STORAGE SECTION . entry*)?
  pub data StorageSection : ℕ → ℕ → List Entry → Type 0 where
    absent : {i : ℕ} → StorageSection i i []
    given : {i m j : ℕ} {es : List Entry} → Headers v k.WorkingStorage k.Section i m → Many IsEntry with_last [] m j es → StorageSection i j es

  -- (DATA DIVISION . file-section storage-section)?
  pub data DataDivision : ℕ → ℕ → Data → Type 0 where
    absent : {i : ℕ} → DataDivision i i (record { files = []; storage = [] })
    given : {i m l j : ℕ} {d : Data} → Headers v k.Data k.Division i m → FileSection m l d.files → StorageSection l j d.storage → DataDivision i j d

  -- name SECTION . | name .
  pub data IsHeading : ℕ → ℕ → Heading → Type 0 where
    section : {i m j : ℕ} {n : List ℕ} → Name v.text i m n → Header v k.Section m j → IsHeading i j (record { name = n; section = true })
    paragraph : {i j : ℕ} {n : List ℕ} → NameUnit v i j n → IsHeading i j (record { name = n; section = false })

-- The sentences that stand from one spot to before another, where statements are numbered in text order.
pub data Sentences (IsSentence : ℕ → ℕ → Sentence → Spot → Type 0) : ℕ → ℕ → List Sentence → Spot → Type 0 where
  stop : {i n : ℕ} → Sentences IsSentence i n [] (record { at = i; number = n })
  more : {i n : ℕ} {x : Sentence} {next end : Spot} {xs : List Sentence} → IsSentence i n x next
      → Sentences IsSentence next.at next.number xs end → Sentences IsSentence i n (x ∷ xs) end

module _ (v : View) (IsSentence : ℕ → ℕ → Sentence → Spot → Type 0) where
  -- a heading and the sentences after it
  pub record IsParagraph (i n : ℕ) (p : Paragraph) (end : Spot) : Type 0 where
    pub middle : ℕ
    pub heading : Heading
    pub xs : List Sentence
    pub head : IsHeading v i middle heading
    pub body : Sentences IsSentence middle n xs end
    pub is : p ≡ record { name = heading.name; section = heading.section; sentences = xs; at = i }

  pub data Paragraphs : ℕ → ℕ → List Paragraph → ℕ → Type 0 where
    stop : {i n : ℕ} → Paragraphs i n [] i
    more : {i n j : ℕ} {p : Paragraph} {end : Spot} {ps : List Paragraph} → IsParagraph i n p end
        → Paragraphs end.at end.number ps j → Paragraphs i n (p ∷ ps) j

  -- Units up to the end of the words: sentences before the first heading make a paragraph without a name.
  pub data Chapters : ℕ → List Paragraph → ℕ → Type 0 where
    headed : {i j : ℕ} {ps : List Paragraph} → Paragraphs i 0 ps j → Chapters i ps j
    unnamed : {i j : ℕ} {xs : List Sentence} {end : Spot} {ps : List Paragraph} → Sentences IsSentence i 0 xs end → xs ≢ []
        → Paragraphs end.at end.number ps j → Chapters i (record { name = []; section = false; sentences = xs; at = i } ∷ ps) j

  -- PROCEDURE DIVISION . and at least one unit
  pub record Procedure (i : ℕ) (ps : List Paragraph) : Type 0 where
    pub start : ℕ
    pub end : ℕ
    pub header : Headers v k.Procedure k.Division i start
    pub some : symbol v.text start ≢ s.End
    pub chapters : Chapters start ps end
    pub over : symbol v.text end ≡ s.End

-- The words are this program: its divisions one after the other. Where sentences may have condition-names, these
-- are those of the data division.
pub record IsProgram (v : View) (IsSentence : List (List ℕ) → ℕ → ℕ → Sentence → Spot → Type 0) (p : Program) : Type 0 where
  pub at_environment : ℕ
  pub at_data : ℕ
  pub at_procedure : ℕ
  pub id : List ℕ
  pub selects : List Select
  pub data_division : Data
  pub paragraphs : List Paragraph
  pub identification : Identification v 0 at_environment id
  pub environment : Environment v at_environment at_data selects
  pub sections : DataDivision v at_data at_procedure data_division
  pub procedure : Procedure v (IsSentence (cond_names data_division)) at_procedure paragraphs
  pub is : p ≡ program_of v.text.words id selects data_division paragraphs
