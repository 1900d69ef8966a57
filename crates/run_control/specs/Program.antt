-- The program that is run, and the ways on of its meaning.
use Rattle.std.specs.Prelude.{◌≡◌, List, [], map}
use Rattle.tree_reading.specs.Reading.{read_paragraph}
use Rattle.program_meaning.specs.Tree.{Paragraph}
use Rattle.program_meaning.specs.State.{Program, Point, Frame, World, State, Stopped, on, at_front}
use Rattle.program_meaning.specs.Step.{Calendar, step, act_task}
use Rattle.run_control.specs.declared.labels.Labels.{Labels}
use Rattle.run_control.specs.declared.task.Task.{Task}
use Rattle.run_control.specs.declared.position.Position.{Position}
use Rattle.run_control.specs.Held.{state_at, read_task, point_of, frames_of}

abbrev pub paragraphs_of : Labels → List Paragraph
paragraphs_of labels = map read_paragraph labels.paragraphs.now

-- a way on: from a point with the open PERFORMs, in a world
abbrev pub Way : Type 0
Way = Point → List Frame → World → State

-- in every world the way on from the old position leads to the new one
abbrev pub Leads : Position → Position → (Program → Calendar → Way) → Type 0
Leads old new way = (program : Program) (day : Calendar) (w : World) → way program day (point_of old) (frames_of old) w ≡ state_at new w

-- the same in every program that has these paragraphs
abbrev pub LeadsIn : Labels → Position → Position → (Program → Calendar → Way) → Type 0
LeadsIn labels old new way =
    (program : Program) (day : Calendar) (w : World) → program.paragraphs ≡ paragraphs_of labels → way program day (point_of old) (frames_of old) w ≡ state_at new w

-- a run of a program with these paragraphs begins at the position
abbrev pub Begins : Labels → Position → Type 0
Begins labels p = (program : Program) (w : World) → program.paragraphs ≡ paragraphs_of labels → on [] (at_front program.paragraphs) w ≡ state_at p w

-- the next step is the end of the text, a STOP RUN
abbrev pub Stops : Position → Type 0
Stops p = (program : Program) (day : Calendar) (w : World) → step program day (state_at p w) ≡ Stopped w

-- the next step is the task, with this position after it
abbrev pub Steps : Position → Task → Position → Type 0
Steps p task q =
    (program : Program) (day : Calendar) (w : World) → step program day (state_at p w) ≡ act_task program day (read_task task) (point_of q) (frames_of q) w
