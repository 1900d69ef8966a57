-- What an operand gives to the receivers of one class.
use Rattle.std.specs.Prelude.{◌≡◌, ℕ, List, Result, Ok, Err}
use Rattle.cobol_syntax.specs.declared.program.Program.{Program}
use Rattle.data_layout.specs.declared.item.Layout.{Layout}
use Rattle.layout_reading.specs.Reading.{read_layout}
use Rattle.operand_kinds.specs.declared.kind.Kind as operand
use Rattle.operand_kinds.specs.declared.kind.Kind.TheVariants as kinds
use Rattle.program_meaning.specs.Answer.{Answer, Gives, Data, or_fault, and_then}
use Rattle.program_meaning.specs.Kind.{Kind}
use Rattle.program_meaning.specs.Moves as meant
use Rattle.program_meaning.specs.Number.{Usage, NumForm, number_in}
use Rattle.program_meaning.specs.Storage.{Storage}
use Rattle.program_meaning.specs.Tree.{Operand}
use Rattle.storage_places.specs.declared.fault.RunFault.{RunFault}
use Rattle.storage_places.specs.Fits.{IsNumber}
use Rattle.storage_places.specs.Meets.{MayMeet}
use Rattle.value_moves.specs.Given.{receiver_of, IsGiven}
use Rattle.value_moves.specs.declared.sent.Receiver.{Receiver}
use Rattle.value_moves.specs.declared.sent.Sent.{Sent}

-- this is sent to a receiver of each kind of the class, in every program with this layout
abbrev pub IsGivenTo : Layout → Storage → Operand → Receiver → Sent → Type 0
IsGivenTo layout store from to sent =
    (program : Program) (k : Kind) → receiver_of k ≡ to → IsGiven sent (meant.sent (read_layout program layout) store from k)

-- this fault is met, or memory is wanting
abbrev pub FailsTo : Layout → Storage → Operand → Receiver → RunFault → Type 0
FailsTo layout store from to fault =
    (program : Program) (k : Kind) → receiver_of k ≡ to → MayMeet (meant.sent (read_layout program layout) store from k) fault

-- the same is given, or the same fault is met, or memory is wanting
abbrev pub Tells : Result Sent RunFault → Answer meant.Sent → Type 0
Tells (Ok sent) answer = IsGiven sent answer
Tells (Err fault) answer = MayMeet answer fault

-- bytes of a number are as many as its form says
abbrev pub BytesFit : operand.Kind → ℕ → Type 0
BytesFit kinds.Group count = Unit {0}
BytesFit kinds.Text count = Unit {0}
BytesFit (kinds.Edited form) count = Unit {0}
BytesFit (kinds.Number usage form) count = IsNumber usage form count

-- what DISPLAY shows of a number that isn't in DISPLAY usage
abbrev pub shown_value : Usage → NumForm → List ℕ → Answer (List ℕ)
shown_value usage form bs = and_then (or_fault Data (number_in usage form bs)) (λ d. Gives (meant.shown_number form d))
