-- Why a statement wasn't done, as the fault of its meaning.
use Rattle.std.specs.Prelude.{◌≡◌}
use Rattle.file_statements.specs.declared.fault.StepFault.{StepFault}
use Rattle.file_statements.specs.declared.fault.StepFault.TheVariants as step
use Rattle.program_meaning.specs.Answer.{Answer, Fails}
use Rattle.program_meaning.specs.State.{World, State, Faulted}
use Rattle.program_meaning.specs.Tree.{StatementId}
use Rattle.storage_places.specs.declared.fault.RunFault.{RunFault}
use Rattle.storage_places.specs.declared.fault.RunFault.TheVariants as run
use Rattle.trial_run.specs.Answers.{read_kind}
use Rattle.trial_run.specs.declared.end.FaultKind.TheVariants as kind
use Rattle.trial_run.specs.declared.halt.Halt.{Halt}
use Rattle.trial_run.specs.declared.halt.Halt.TheVariants as halt

abbrev pub halt_of_run : RunFault → Halt
halt_of_run run.Data = halt.Fault kind.Data
halt_of_run run.Range = halt.Fault kind.Range
halt_of_run run.Zero = halt.Fault kind.Zero
halt_of_run run.Wide = halt.Fault kind.Wide
halt_of_run run.Memory = halt.Memory

abbrev pub halt_of_step : StepFault → Halt
halt_of_step step.Data = halt.Fault kind.Data
halt_of_step step.Range = halt.Fault kind.Range
halt_of_step step.Zero = halt.Fault kind.Zero
halt_of_step step.Wide = halt.Fault kind.Wide
halt_of_step step.File = halt.Fault kind.File
halt_of_step step.Memory = halt.Memory

-- what is computed has failed so; after want of memory nothing is said
abbrev pub FailsBy : {A : Type 0} → Answer A → Halt → Type 0
FailsBy a (halt.Fault kind) = a ≡ Fails (read_kind kind)
FailsBy a halt.Memory = Unit {0}

-- a run has met this fault at a statement, in this world; after want of memory nothing is said
abbrev pub Met : StatementId → World → State → Halt → Type 0
Met id w s (halt.Fault kind) = s ≡ Faulted (read_kind kind) id w
Met id w s halt.Memory = Unit {0}
