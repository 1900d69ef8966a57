-- What a file statement did.
use Rattle.std.specs.Prelude.{◌≡◌, List}
use Rattle.cobol_syntax.specs.declared.program.Program as tree
use Rattle.data_layout.specs.declared.item.Layout.{Layout}
use Rattle.data_layout.specs.declared.portfolio.FileUse.{FileUse}
use Rattle.layout_reading.specs.Reading.{read_program}
use Rattle.program_meaning.specs.Answer as answer
use Rattle.program_meaning.specs.State.{Program, Shown, World}
use Rattle.program_meaning.specs.Step.{Calendar, Called, Told, Broken}
use Rattle.seq_files.specs.Codes.{code}
use Rattle.seq_files.specs.declared.status.Status.{Status}
use Rattle.file_statements.specs.declared.fault.StepFault.{StepFault}
use Rattle.file_statements.specs.declared.fault.StepFault.TheVariants as fault
use Rattle.file_statements.specs.declared.unit.RunUnit.{RunUnit}
use Rattle.file_statements.specs.Units.{world_of}

-- in every program with this layout, and whatever was shown before, the statement answers this status, with the world
-- as it is now
abbrev pub Tells : Layout → RunUnit → RunUnit → (Program → Calendar → World → Called) → Status → Type 0
Tells layout old new meaning status =
    (files : List FileUse) (program : tree.Program) (day : Calendar) (shown : List Shown) →
    meaning (read_program files program layout) day (world_of old shown) ≡ Told (code status) (world_of new shown)

-- or it ends by this fault, with the world as it is now
abbrev pub BreaksBy : Layout → RunUnit → RunUnit → (Program → Calendar → World → Called) → answer.Fault → Type 0
BreaksBy layout old new meaning e =
    (files : List FileUse) (program : tree.Program) (day : Calendar) (shown : List Shown) →
    meaning (read_program files program layout) day (world_of old shown) ≡ Broken e (world_of new shown)

-- after want of memory nothing is said
abbrev pub Breaks : Layout → RunUnit → RunUnit → (Program → Calendar → World → Called) → StepFault → Type 0
Breaks layout old new meaning fault.Data = BreaksBy layout old new meaning answer.Data
Breaks layout old new meaning fault.Range = BreaksBy layout old new meaning answer.Range
Breaks layout old new meaning fault.Zero = BreaksBy layout old new meaning answer.Zero
Breaks layout old new meaning fault.Wide = BreaksBy layout old new meaning answer.Wide
Breaks layout old new meaning fault.File = BreaksBy layout old new meaning answer.File
Breaks layout old new meaning fault.Memory = Unit {0}
