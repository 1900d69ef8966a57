-- Why words are no program: the first unit that isn't read, with the units before it, one case for each place
-- where one may stand.
use Rattle.std.specs.Prelude.{◌≡◌, ◌≢◌, ℕ, true, List, [], ◌∷◌, Option, Some, None, slice_get}
use Rattle.y2k_base.specs.declared.word.Word.{Word}
use Rattle.cobol_syntax.specs.declared.program.Entry.{Entry}
use Rattle.cobol_syntax.specs.declared.program.FileEntry.{FileEntry}
use Rattle.cobol_syntax.specs.declared.program.Paragraph.{Paragraph}
use Rattle.cobol_syntax.specs.declared.program.Select.{Select}
use Rattle.cobol_syntax.specs.declared.program.Sentence.{Sentence}
use Rattle.cond_reader.specs.declared.symbol.Symbol.TheVariants as s
use Rattle.cond_reader.specs.Text.{symbol}
use Rattle.cond_reader.specs.Reads.{with_last}
use Rattle.cond_reader.specs.Grammar.{Many}
use Rattle.proc_reader.specs.declared.spot.Spot.{Spot}
use Rattle.program_reader.specs.declared.data.Data.{Data}
use Rattle.program_reader.specs.declared.entry.Draft.{Draft}
use Rattle.program_reader.specs.declared.fault.Refused.{Refused}
use Rattle.program_reader.specs.declared.procedure.Heading.{Heading}
use Rattle.program_reader.specs.declared.term.Term.{Term}
use Rattle.program_reader.specs.declared.term.Term.TheVariants as k
use Rattle.program_reader.specs.Readings.{HasPictureFault}
use Rattle.program_reader.specs.Views.{View, header, headers, named}
use Rattle.program_reader.specs.UnitFaults.{fault}
use Rattle.program_reader.specs.Selects.{select}
use Rattle.program_reader.specs.Files.{file}
use Rattle.program_reader.specs.Entries.{entry}
use Rattle.program_reader.specs.Procedures.{heading}
use Rattle.program_reader.specs.Whole.{cond_names}
use Rattle.program_reader.specs.Grammar.{Then, Header, Headers}
use Rattle.program_reader.specs.EntryGrammar.{IsSelect, IsFile, IsDraft}
use Rattle.program_reader.specs.ProgramGrammar.{Identification, Computer, Configuration, Environment, IsEntry, FileWithRecords, FileSection, DataDivision, IsHeading, Sentences, IsParagraph, Chapters}

module _ (v : View) where
  -- the unit that must stand here isn't read
  pub record Unread {A : Type 0} (read : Option A) (i : ℕ) (x : Refused) : Type 0 where
    pub nothing : read ≡ None
    pub is : x ≡ fault v i

  pub data IdentificationRefused (x : Refused) : Type 0 where
    division : Unread (headers v k.Identification k.Division 0) 0 x → IdentificationRefused x
    program_id : {i : ℕ} → Headers v k.Identification k.Division 0 i → Unread (header v k.ProgramId i) i x → IdentificationRefused x
    name : {i : ℕ} → Then (Headers v k.Identification k.Division) (Header v k.ProgramId) 0 i → Unread (named v i) i x → IdentificationRefused x

  -- the name of a computer
  pub record ComputerRefused (term : Term) (i : ℕ) (x : Refused) : Type 0 where
    pub at_name : ℕ
    pub header : Header v term i at_name
    pub name : Unread (named v at_name) at_name x

  pub data EnvironmentRefused (i : ℕ) (x : Refused) : Type 0 where
    source : {m : ℕ} → Then (Headers v k.Environment k.Division) (Headers v k.Configuration k.Section) i m
        → ComputerRefused k.SourceComputer m x → EnvironmentRefused i x
    object : {m : ℕ} → Then (Headers v k.Environment k.Division) (Then (Headers v k.Configuration k.Section) (Computer v k.SourceComputer)) i m
        → ComputerRefused k.ObjectComputer m x → EnvironmentRefused i x
    file_control : {m : ℕ} → Then (Headers v k.Environment k.Division) (Then (Configuration v) (Headers v k.InputOutput k.Section)) i m
        → Unread (header v k.FileControl m) m x → EnvironmentRefused i x
    select_entry : {m l : ℕ} {ss : List Select}
        → Then (Headers v k.Environment k.Division) (Then (Configuration v) (Then (Headers v k.InputOutput k.Section) (Header v k.FileControl))) i m
        → Many (IsSelect v) with_last [] m l ss → Unread (select v l) l x → EnvironmentRefused i x

  -- an entry that isn't read, or one whose PICTURE string has a fault
  pub data EntryRefused (i : ℕ) (x : Refused) : Type 0 where
    unread : Unread (entry v i) i x → EntryRefused i x
    picture : {j : ℕ} {d : Draft} {w : Word} → IsDraft v i j d → d.has_picture ≡ true → slice_get v.text.words d.entry.picture_at ≡ Some w
        → HasPictureFault w.text x.kind → x.at ≡ w.origin → EntryRefused i x

  -- the first of these after the entries that are read
  pub record EntriesRefused (i : ℕ) (x : Refused) : Type 0 where
    pub middle : ℕ
    pub es : List Entry
    pub before : Many (IsEntry v) with_last [] i middle es
    pub refused : EntryRefused middle x

  -- an FD, or the entries under one
  pub data FileRefused (i : ℕ) (x : Refused) : Type 0 where
    unread : Unread (file v i) i x → FileRefused i x
    records : {m : ℕ} {f : FileEntry} → IsFile v i m f → EntriesRefused m x → FileRefused i x

  pub data DataRefused (i : ℕ) (x : Refused) : Type 0 where
    files : {m l : ℕ} {fs : List FileEntry} → Then (Headers v k.Data k.Division) (Headers v k.File k.Section) i m
        → Many (FileWithRecords v) with_last [] m l fs → FileRefused l x → DataRefused i x
    storage : {m l q : ℕ} {fs : List FileEntry} → Headers v k.Data k.Division i m → FileSection v m l fs → Headers v k.WorkingStorage k.Section l q
        → EntriesRefused q x → DataRefused i x

module _ (v : View) (IsSentence : ℕ → ℕ → Sentence → Spot → Type 0) (NoSentence : ℕ → ℕ → Type 0) where
  -- the first sentence that isn't read
  pub record SentencesRefused (i n : ℕ) (x : Refused) : Type 0 where
    pub end : Spot
    pub xs : List Sentence
    pub before : Sentences IsSentence i n xs end
    pub nothing : NoSentence end.at end.number
    pub is : x ≡ fault v end.at

  pub data ParagraphRefused (i n : ℕ) (x : Refused) : Type 0 where
    head : Unread v (heading v i) i x → ParagraphRefused i n x
    body : {m : ℕ} {h : Heading} → IsHeading v i m h → SentencesRefused m n x → ParagraphRefused i n x

  pub data ParagraphsRefused : ℕ → ℕ → Refused → Type 0 where
    here : {i n : ℕ} {x : Refused} → ParagraphRefused i n x → ParagraphsRefused i n x
    later : {i n : ℕ} {x : Refused} {p : Paragraph} {end : Spot} → IsParagraph v IsSentence i n p end
        → ParagraphsRefused end.at end.number x → ParagraphsRefused i n x

  pub data ChaptersRefused (i : ℕ) (x : Refused) : Type 0 where
    missing : symbol v.text i ≡ s.End → x ≡ fault v i → ChaptersRefused i x
    unnamed : SentencesRefused i 0 x → ChaptersRefused i x
    paragraphs : ParagraphsRefused i 0 x → ChaptersRefused i x
    after_unnamed : {xs : List Sentence} {end : Spot} → Sentences IsSentence i 0 xs end → ParagraphsRefused end.at end.number x → ChaptersRefused i x
    beyond : {j : ℕ} {ps : List Paragraph} → Chapters v IsSentence i ps j → symbol v.text j ≢ s.End → x ≡ fault v j → ChaptersRefused i x

  pub data ProcedureRefused (i : ℕ) (x : Refused) : Type 0 where
    division : Unread v (headers v k.Procedure k.Division i) i x → ProcedureRefused i x
    chapters : {m : ℕ} → Headers v k.Procedure k.Division i m → ChaptersRefused m x → ProcedureRefused i x

-- The words are no program: why the first unit at fault is refused, after the divisions that are read.
pub data IsRefused (v : View) (IsSentence : List (List ℕ) → ℕ → ℕ → Sentence → Spot → Type 0) (NoSentence : List (List ℕ) → ℕ → ℕ → Type 0) (x : Refused) : Type 0 where
  identification : IdentificationRefused v x → IsRefused v IsSentence NoSentence x
  environment : {i : ℕ} {id : List ℕ} → Identification v 0 i id → EnvironmentRefused v i x → IsRefused v IsSentence NoSentence x
  data_division : {i j : ℕ} {id : List ℕ} {ss : List Select} → Identification v 0 i id → Environment v i j ss → DataRefused v j x → IsRefused v IsSentence NoSentence x
  procedure : {i j m : ℕ} {id : List ℕ} {ss : List Select} {d : Data} → Identification v 0 i id → Environment v i j ss → DataDivision v j m d
      → ProcedureRefused v (IsSentence (cond_names d)) (NoSentence (cond_names d)) m x → IsRefused v IsSentence NoSentence x
