-- The state of a running program, and what a statement makes of it.
use Rattle.std.specs.Prelude.{◌≡◌, List, map}
use Rattle.file_statements.specs.Units as units
use Rattle.file_statements.specs.Units.{IsUnitOf}
use Rattle.program_meaning.specs.State.{Program, Point, Frame, World, State, Stopped, Faulted}
use Rattle.program_meaning.specs.State as state
use Rattle.program_meaning.specs.Step.{Calendar, act}
use Rattle.program_meaning.specs.Storage.{Storage}
use Rattle.program_meaning.specs.Tree.{StatementId, Form}
use Rattle.run_control.specs.Held.{state_at, point_of, frames_of}
use Rattle.run_control.specs.Program.{Way}
use Rattle.storage_places.specs.Held.{held}
use Rattle.tree_reading.specs.Reading.{read_id}
use Rattle.trial_run.specs.Answers.{read_kind, read_shown}
use Rattle.trial_run.specs.Halts.{Met}
use Rattle.trial_run.specs.Plans.{program_of, day_of}
use Rattle.trial_run.specs.declared.halt.Halt.{Halt}
use Rattle.trial_run.specs.declared.plan.Plan.{Plan}
use Rattle.trial_run.specs.declared.run.Run.{Run}
use Rattle.trial_run.specs.declared.run.Moved.{Moved}
use Rattle.trial_run.specs.declared.run.Moved.TheVariants as moved
use Rattle.trial_run.specs.declared.run.Stepped.{Stepped}
use Rattle.trial_run.specs.declared.run.Stepped.TheVariants as stepped

abbrev pub shown_of : Run → List state.Shown
shown_of run = map read_shown run.shown

abbrev pub world_of : Run → World
world_of run = units.world_of run.unit (shown_of run)

abbrev pub storage_of : Run → Storage
storage_of run = held run.unit.storage

abbrev pub state_of : Run → State
state_of run = state_at run.position (world_of run)

-- it has places and storage of the program
abbrev pub IsRunOf : Plan → Run → Type 0
IsRunOf plan run = IsUnitOf plan.layout.now run.unit

-- where a way leads from here
abbrev pub led : Plan → Run → (Program → Calendar → Way) → State
led plan run way = way (program_of plan) (day_of plan) (point_of run.position) (frames_of run.position) (world_of run)

abbrev pub doing : StatementId → Form → Program → Calendar → Way
doing id form program day = act program day id form

-- the way leads to where the run is now
abbrev pub Went : Plan → Run → Run → (Program → Calendar → Way) → Type 0
Went plan old new way = led plan old way ≡ state_of new

-- the way has met a fault, with the world as it is now
abbrev pub Fell : Plan → Run → Run → StatementId → (Program → Calendar → Way) → Halt → Type 0
Fell plan old new id way h = Met id (world_of new) (led plan old way) h

-- where a statement has led to, whether the run goes on or a STOP RUN has ended it
abbrev pub HasMoved : State → Run → Moved → Type 0
HasMoved s new moved.On = s ≡ state_of new
HasMoved s new moved.Stopped = s ≡ Stopped (world_of new)

-- the state after a step
abbrev pub HasStepped : State → Run → Stepped → Type 0
HasStepped s new stepped.On = s ≡ state_of new
HasStepped s new stepped.Stopped = s ≡ Stopped (world_of new)
HasStepped s new (stepped.Failed kind id) = s ≡ Faulted (read_kind kind) (read_id id) (world_of new)
