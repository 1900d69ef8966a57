-- What a sender gives, in the code and in the meaning of programs.
use Rattle.std.specs.Prelude.{◌≡◌, Result, Ok, Err}
use Rattle.decimal_bytes.specs.declared.form.Scaled.{Scaled}
use Rattle.program_meaning.specs.Answer.{Answer, Gives, Fails, Data}
use Rattle.program_meaning.specs.Number.{Decimal}
use Rattle.program_meaning.specs.Kind.{Kind, Group, Text, Edited, Number}
use Rattle.program_meaning.specs.Moves as meant
use Rattle.number_bytes.specs.Held.{IsExactly}
use Rattle.value_moves.specs.declared.sent.Receiver.{Receiver}
use Rattle.value_moves.specs.declared.sent.Receiver.TheVariants as to
use Rattle.value_moves.specs.declared.sent.Sent.{Sent}
use Rattle.value_moves.specs.declared.sent.Sent.TheVariants.{Bytes, Amount, Fill}
use Rattle.value_moves.specs.declared.sent.MoveFault.{MoveFault}
use Rattle.value_moves.specs.declared.sent.MoveFault.TheVariants as fault

-- what a sender looks at in a receiver
abbrev pub receiver_of : Kind → Receiver
receiver_of Group = to.Group
receiver_of Text = to.Text
receiver_of (Edited picture) = to.Aligned
receiver_of (Number usage form) = to.Aligned

-- a number that is sent
pub record IsAmount (x : Scaled) (m : meant.Sent) : Type 0 where
  pub decimal : Decimal
  pub is : m ≡ meant.Amount decimal
  pub exactly : IsExactly decimal x

-- the same is sent
abbrev pub IsSent : Sent → meant.Sent → Type 0
IsSent (Bytes bs) m = m ≡ meant.Bytes bs
IsSent (Amount x) m = IsAmount x.number m
IsSent (Fill b) m = m ≡ meant.Fill b

-- a group or a text is sent no number
abbrev pub IsFor : Receiver → Sent → Type 0
IsFor to.Aligned s = Unit {0}
IsFor to.Group (Bytes bs) = Unit {0}
IsFor to.Group (Amount x) = ⊥
IsFor to.Group (Fill b) = Unit {0}
IsFor to.Text (Bytes bs) = Unit {0}
IsFor to.Text (Amount x) = ⊥
IsFor to.Text (Fill b) = Unit {0}

pub record IsGiven (sent : Sent) (answer : Answer meant.Sent) : Type 0 where
  pub meant : meant.Sent
  pub gives : answer ≡ Gives meant
  pub same : IsSent sent meant

-- the same is given, or bytes hold no number, or memory is wanting
abbrev pub Answers : Result Sent MoveFault → Answer meant.Sent → Type 0
Answers (Ok sent) answer = IsGiven sent answer
Answers (Err fault.Data) answer = answer ≡ Fails Data
Answers (Err fault.Memory) answer = Unit {0}
