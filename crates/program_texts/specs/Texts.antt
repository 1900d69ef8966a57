-- The words of the texts of a portfolio. A text is the file of its number; the first is that of number 0.
use Rattle.std.specs.Prelude.{◌≡◌, ◌⊎◌, ℕ, ◌+◌, List, [], ◌∷◌, ◌++◌}
use Rattle.y2k_base.specs.declared.word.FileId.{FileId}
use Rattle.y2k_base.specs.declared.word.Word.{Word}
use Rattle.y2k_base.specs.declared.text.Text.{Text}
use Rattle.y2k_base.specs.declared.text.TextRole.{TextRole}
use Rattle.y2k_base.specs.declared.text.TextRole.TheVariants as role
use Rattle.fixed_format.specs.Columns.{lines}
use Rattle.fixed_format.specs.Joined.{words_in, faults_in, IsFirstFault}
use Rattle.fixed_format.specs.declared.fault.LineKind.{LineKind}
use Rattle.fixed_format.specs.declared.fault.LineKind.TheVariants as line
use Rattle.fixed_format.specs.declared.fault.LineFault.TheVariants as line_fault
use Rattle.program_reader.specs.declared.fault.ReadFault.{ReadFault}
use Rattle.program_reader.specs.declared.fault.ReadFault.TheVariants as fault
use Rattle.program_reader.specs.declared.fault.RefusedKind.{RefusedKind}
use Rattle.program_reader.specs.declared.fault.RefusedKind.TheVariants as kind
use Rattle.program_texts.specs.declared.line.TextWords.{TextWords}

abbrev pub file : ℕ → FileId
file number = record { 0 = number }

abbrev pub no_words : TextWords
no_words = record { books = record { list = [] }; sources = [] }

-- the words of a copybook go to the books, and those of a program to the sources
abbrev pub words_as : TextRole → TextWords → ℕ → Text → List Word → TextWords
words_as role.Book read number text words =
    record { books = record { list = read.books.list ++ record { key = text.key; words = words } ∷ [] }; sources = read.sources }
words_as role.Program read number text words =
    record { books = read.books; sources = read.sources ++ record { file = file number; words = words } ∷ [] }

abbrev pub with_words : TextWords → ℕ → Text → List Word → TextWords
with_words read number text words = words_as text.role read number text words

abbrev pub with_text : TextWords → ℕ → Text → TextWords
with_text read number text = with_words read number text (words_in (file number) (lines text.bytes))

abbrev pub with_texts : TextWords → ℕ → List Text → TextWords
with_texts read number [] = read
with_texts read number (text ∷ texts) = with_texts (with_text read number text) (number + 1) texts

-- the words of texts
abbrev pub words_of : List Text → TextWords
words_of texts = with_texts no_words 0 texts

-- no text has a fault in its lines
abbrev pub AreWhole : List Text → Type 0
AreWhole [] = Unit {0}
AreWhole (text ∷ texts) = (faults_in (lines text.bytes) ≡ []) × AreWhole texts

abbrev pub kind_of : LineKind → RefusedKind
kind_of line.BadByte = kind.BadByte
kind_of line.LineLong = kind.LineLong
kind_of line.OpenLiteral = kind.OpenLiteral
kind_of line.BadContinuation = kind.BadContinuation
kind_of line.WordLong = kind.WordLong

-- a text is refused for the first fault in its lines
abbrev pub IsRefusedText : ℕ → Text → ReadFault → Type 0
IsRefusedText number text (fault.Refused refused) =
    (k : LineKind) × (refused.kind ≡ kind_of k) × IsFirstFault (file number) text.bytes (line_fault.At k refused.at)
IsRefusedText number text fault.Memory = Unit {0}

-- the first text with a fault in its lines is refused
abbrev pub IsRefusedAmong : ℕ → List Text → ReadFault → Type 0
IsRefusedAmong number [] fault = ⊥
IsRefusedAmong number (text ∷ texts) fault =
    IsRefusedText number text fault ⊎ ((faults_in (lines text.bytes) ≡ []) × IsRefusedAmong (number + 1) texts fault)

abbrev pub HasLineFault : List Text → ReadFault → Type 0
HasLineFault texts (fault.Refused refused) = IsRefusedAmong 0 texts (fault.Refused refused)
HasLineFault texts fault.Memory = Unit {0}
