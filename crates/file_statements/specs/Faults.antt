-- A fault of a step over the storage as the fault of a statement.
use Rattle.storage_places.specs.declared.fault.RunFault.{RunFault}
use Rattle.storage_places.specs.declared.fault.RunFault.TheVariants as run
use Rattle.file_statements.specs.declared.fault.StepFault.{StepFault}
use Rattle.file_statements.specs.declared.fault.StepFault.TheVariants as step

abbrev pub step_fault : RunFault → StepFault
step_fault run.Data = step.Data
step_fault run.Range = step.Range
step_fault run.Zero = step.Zero
step_fault run.Wide = step.Wide
step_fault run.Memory = step.Memory
