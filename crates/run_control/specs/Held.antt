-- What the code holds of a running program, as the tasks, the point and the open PERFORMs of the meaning of programs.
use Rattle.std.specs.Prelude.{List, [], ◌∷◌, map, Option, Some, None}
use Rattle.std.specs.List.{fold}
use denote.Ref.{Bor}
use Rattle.cobol_syntax.specs.declared.statement.Statement.{Statement}
use Rattle.cobol_syntax.specs.declared.statement.Vary.{Vary}
use Rattle.tree_reading.specs.Reading.{read_statements, read_statement, read_sentence, read_paragraph, read_condition, read_vary, read_id}
use Rattle.program_meaning.specs.Tree as tree
use Rattle.program_meaning.specs.State.{Program, Point, Next, World, State, Stopped, before, point, settle, on}
use Rattle.program_meaning.specs.State as state
use Rattle.run_control.specs.declared.task.Body.{Body}
use Rattle.run_control.specs.declared.task.Body.TheVariants as b
use Rattle.run_control.specs.declared.task.Loop.{Loop}
use Rattle.run_control.specs.declared.task.Stage.{Stage}
use Rattle.run_control.specs.declared.task.Stage.TheVariants as g
use Rattle.run_control.specs.declared.task.Task.{Task}
use Rattle.run_control.specs.declared.task.Task.TheVariants as t
use Rattle.run_control.specs.declared.task.Frame.{Frame}
use Rattle.run_control.specs.declared.task.Entry.{Entry}
use Rattle.run_control.specs.declared.task.Entry.TheVariants as e
use Rattle.run_control.specs.declared.position.Position.{Position}

abbrev pub read_body : Body → tree.Performed
read_body (b.Inline list) = tree.Inline (read_statements list.now)
read_body (b.Through range) = tree.Through range.now.first range.now.last

abbrev pub read_vary_at : Option (Bor Vary) → Option tree.Vary
read_vary_at None = None
read_vary_at (Some v) = Some (read_vary v.now)

abbrev pub read_loop : Loop → state.Loop
read_loop l =
    record { id = read_id l.id; what = read_body l.what; after = l.after; test = read_condition l.test.now; vary = read_vary_at l.vary }

abbrev pub read_stage : Stage → Loop → state.Task
read_stage (g.Set v) l = state.Set (read_loop l) (read_vary v.now)
read_stage (g.Advance v) l = state.Advance (read_loop l) (read_vary v.now)
read_stage g.Test l = state.Test (read_loop l)

abbrev pub read_task : Task → state.Task
read_task (t.Do s) = state.Do (read_statement s.now)
read_task (t.Turn id what left) = state.Turn (read_id id) (read_body what) left
read_task (t.Loop stage l) = read_stage stage l

-- where an open PERFORM goes on, with the tasks of that sentence
abbrev pub read_frame : List state.Task → Frame → state.Frame
read_frame ts f = record { after = f.after; goes_on = point ts (map read_sentence f.sentences.now) (map read_paragraph f.paragraphs.now) }

-- the tasks of the sentence where a run is, and the open PERFORMs
pub record Held : Type 0 where
  pub tasks : List state.Task
  pub frames : List state.Frame

abbrev pub nothing_held : Held
nothing_held = record { tasks = []; frames = [] }

-- with a further entry: statements or a task in front, or a PERFORM that is opened and goes on with the tasks so far
abbrev pub with_entry : Held → Entry → Held
with_entry h (e.Rest list) = record { tasks = before (read_statements list.now) h.tasks; frames = h.frames }
with_entry h (e.Next task) = record { tasks = read_task task ∷ h.tasks; frames = h.frames }
with_entry h (e.Return f) = record { tasks = []; frames = read_frame h.tasks f ∷ h.frames }

-- what entries hold, the oldest first
abbrev pub held : List Entry → Held
held = fold with_entry nothing_held

-- entries, and above them an open PERFORM that was taken off them
abbrev pub held_with : List Entry → Option Frame → Held
held_with es None = held es
held_with es (Some f) = with_entry (held es) (e.Return f)

abbrev pub tasks_of : Position → List state.Task
tasks_of p = (held p.entries.items).tasks

abbrev pub frames_of : Position → List state.Frame
frames_of p = (held p.entries.items).frames

abbrev pub point_of : Position → Point
point_of p = point (tasks_of p) (map read_sentence p.sentences.now) (map read_paragraph p.paragraphs.now)

-- where the run goes on from a position
abbrev pub next_of : Position → Next
next_of p = settle (frames_of p) (point_of p)

-- the same, where an open PERFORM was taken off
abbrev pub next_with : Position → Option Frame → Next
next_with p f =
    settle (held_with p.entries.items f).frames (point (held_with p.entries.items f).tasks (map read_sentence p.sentences.now) (map read_paragraph p.paragraphs.now))

-- the same, with a list of statements in front
abbrev pub next_with_list : Position → List Statement → Next
next_with_list p list =
    settle (frames_of p) (point (before (read_statements list) (tasks_of p)) (map read_sentence p.sentences.now) (map read_paragraph p.paragraphs.now))

-- the state of a run at a position
abbrev pub state_at : Position → World → State
state_at p w = on (frames_of p) (point_of p) w

-- the next task, and the position after it
abbrev pub task_before : Task → Position → Next
task_before t p = (point (read_task t ∷ tasks_of p) (map read_sentence p.sentences.now) (map read_paragraph p.paragraphs.now), frames_of p)
