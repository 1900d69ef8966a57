-- What reading a sentence answers.
use Rattle.std.specs.Prelude.{◌≡◌, ℕ, List, map, Option, Some, None}
use Rattle.y2k_base.specs.declared.word.Word.{Word}
use Rattle.cobol_syntax.specs.declared.program.Sentence.{Sentence}
use Rattle.cond_reader.specs.Kinds.{text_with}
use Rattle.cond_reader.specs.declared.fault.UnitFault.{UnitFault}
use Rattle.cond_reader.specs.declared.fault.UnitFault.TheVariants as fault
use Rattle.proc_reader.specs.Keywords.{keyword_of}
use Rattle.proc_reader.specs.Source.{Source}
use Rattle.proc_reader.specs.Reading.{spot}
use Rattle.proc_reader.specs.Sentences.{sentence}
use Rattle.proc_reader.specs.SentenceGrammar.{IsSentence}
use Rattle.cond_reader.specs.UnitFaults.{unit_fault}

-- the words of a program with these condition-names
abbrev pub source_with : List Word → List (List ℕ) → ℕ → Source
source_with words names program = record { text = text_with words names; keywords = map keyword_of words; program = program }

-- a sentence of the grammar, the position after it and the number of the next statement, as the reader reads them
abbrev pub IsRead : Source → ℕ → ℕ → Sentence × ℕ × ℕ → Type 0
IsRead t from first r =
    IsSentence t 64 (spot from first) (spot r.1 r.2) r.0 × (sentence t 64 (spot from first) ≡ Some (r.0, spot r.1 r.2))

-- where the reader reads nothing, the fault of the unit; where memory is wanting it says nothing
abbrev pub HasUnitFault : Source → ℕ → ℕ → UnitFault → Type 0
HasUnitFault t from first fault.Memory = Unit {0}
HasUnitFault t from first e = (sentence t 64 (spot from first) ≡ None) × (e ≡ unit_fault t.text from)
