-- What the words of a program read as.
use Rattle.std.specs.Prelude.{◌≡◌, ℕ, List, Option, Some, None}
use Rattle.y2k_base.specs.declared.word.FileId.{FileId}
use Rattle.y2k_base.specs.declared.word.Word.{Word}
use Rattle.cobol_syntax.specs.declared.program.Program.{Program}
use Rattle.cobol_syntax.specs.declared.program.Sentence.{Sentence}
use Rattle.proc_reader.specs.declared.spot.Spot.{Spot}
use Rattle.proc_reader.specs.SentenceGrammar.{IsSentence}
use Rattle.proc_reader.specs.Sentences.{sentence}
use Rattle.program_reader.specs.declared.fault.ReadFault.{ReadFault}
use Rattle.program_reader.specs.declared.fault.ReadFault.TheVariants as fault
use Rattle.program_reader.specs.declared.fault.Refused.{Refused}
use Rattle.program_reader.specs.declared.reading.Reading.{Reading}
use Rattle.program_reader.specs.Readings.{AreReadings}
use Rattle.program_reader.specs.Whole.{source_with, view_with}
use Rattle.program_reader.specs.ProgramGrammar.{IsProgram}
use Rattle.program_reader.specs.RefusalGrammar.{IsRefused}

-- the sentence at a position of these words, with these condition-names, and the spot after it
abbrev pub SentenceAt : List Word → ℕ → List (List ℕ) → ℕ → ℕ → Sentence → Spot → Type 0
SentenceAt words program names i n x next = IsSentence (source_with words names program) 64 (record { at = i; number = n }) next x

-- The words are this program by the grammar, with what their PICTURE strings read as.
pub record IsRead (words : List Word) (program : ℕ) (file : FileId) (p : Program) : Type 0 where
  pub readings : List Reading
  pub are_readings : AreReadings words readings
  pub is_program : IsProgram (view_with words readings file) (SentenceAt words program) p

-- no sentence is read at a position
abbrev pub NoSentenceAt : List Word → ℕ → List (List ℕ) → ℕ → ℕ → Type 0
NoSentenceAt words program names i n = sentence (source_with words names program) 64 (record { at = i; number = n }) ≡ None

-- The words are no program: the first unit at fault is refused, or its PICTURE string.
pub record IsRefusedBy (words : List Word) (program : ℕ) (file : FileId) (x : Refused) : Type 0 where
  pub readings : List Reading
  pub are_readings : AreReadings words readings
  pub is_refused : IsRefused (view_with words readings file) (SentenceAt words program) (NoSentenceAt words program) x

-- the same of a fault; want of memory says nothing
abbrev pub HasReadFault : List Word → ℕ → FileId → ReadFault → Type 0
HasReadFault words program file (fault.Refused x) = IsRefusedBy words program file x
HasReadFault words program file fault.Memory = Unit {0}
