-- Faults of arithmetic as faults of a run.
use Rattle.std.specs.Prelude.{◌≡◌, Bool, true, false, pos, Result, Ok, Err}
use Rattle.exact_arithmetic.specs.declared.fault.ArithmeticFault.{ArithmeticFault}
use Rattle.exact_arithmetic.specs.declared.fault.ArithmeticFault.TheVariants as arithmetic
use Rattle.exact_arithmetic.specs.declared.outcome.Outcome.{Outcome}
use Rattle.exact_arithmetic.specs.Answers.{read_outcome}
use Rattle.program_meaning.specs.Answer.{Answer, Gives}
use Rattle.program_meaning.specs.Arithmetic as meant
use Rattle.storage_places.specs.declared.fault.RunFault.{RunFault}
use Rattle.storage_places.specs.declared.fault.RunFault.TheVariants as fault
use Rattle.storage_places.specs.Meets.{MayMeet}

abbrev pub run_fault : ArithmeticFault → RunFault
run_fault arithmetic.Wide = fault.Wide
run_fault arithmetic.Zero = fault.Zero

-- an outcome is what the meaning gives, or its fault
abbrev pub IsOutcome : Answer meant.Outcome → Result Outcome RunFault → Type 0
IsOutcome meaning (Ok outcome) = meaning ≡ Gives (read_outcome outcome)
IsOutcome meaning (Err e) = MayMeet meaning e

abbrev pub size_error : Outcome
size_error = record { is_error = true; result = pos 0; rest = pos 0 }

-- with a size phrase a divisor of 0 is a size error
abbrev pub phrased : Bool → Result Outcome RunFault → Result Outcome RunFault
phrased phrase (Ok outcome) = Ok outcome
phrased phrase (Err fault.Data) = Err fault.Data
phrased phrase (Err fault.Range) = Err fault.Range
phrased false (Err fault.Zero) = Err fault.Zero
phrased true (Err fault.Zero) = Ok size_error
phrased phrase (Err fault.Wide) = Err fault.Wide
phrased phrase (Err fault.Memory) = Err fault.Memory
