-- A fault of the code and the halt that it becomes are the same failure of what is computed.
use Rattle.std.specs.Prelude.{◌≡◌}
use Rattle.std.proofs.Common.{subst, sym}
use Rattle.cobol_syntax.specs.declared.program.Program.{Program}
use Rattle.data_layout.specs.declared.item.Layout.{Layout}
use Rattle.layout_reading.specs.Reading.{read_layout}
use Rattle.place_table.specs.Tables.{Failed}
use Rattle.program_meaning.specs.Answer.{Answer}
use Rattle.program_meaning.specs.Layout as meant
use Rattle.storage_places.specs.Meets.{MayMeet}
use Rattle.storage_places.specs.declared.fault.RunFault.{RunFault}
use Rattle.storage_places.specs.declared.fault.RunFault.TheVariants as run
use Rattle.trial_run.specs.declared.halt.Halt.{Halt}
use Rattle.trial_run.specs.Halts.{halt_of_run, FailsBy}

of_one : {A : Type 0} (a : Answer A) (fault : RunFault) → MayMeet a fault → FailsBy a (halt_of_run fault)
of_one a run.Data met = met
of_one a run.Range met = met
of_one a run.Zero met = met
of_one a run.Wide met = met
of_one a run.Memory met = met

pub of_run : {A : Type 0} (own l : Layout) (program : Program) (meaning : meant.Layout → Answer A) (fault : RunFault) (h : Halt) → h ≡ halt_of_run fault
    → own ≡ l → Failed own meaning fault → FailsBy (meaning (read_layout program l)) h
of_run own l program meaning fault h is same failed =
    subst (λ (x : Layout). FailsBy (meaning (read_layout program x)) h) same
    (subst (λ (x : Halt). FailsBy (meaning (read_layout program own)) x) (sym is) (of_one (meaning (read_layout program own)) fault (failed program)))
