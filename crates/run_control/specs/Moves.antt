-- A move towards the next task.
use Rattle.std.specs.Prelude.{◌≡◌, ℕ, ◌<◌, List, [], ◌∷◌}
use Rattle.program_meaning.specs.State.{Next, at_end}
use Rattle.program_meaning.specs.State as state
use Rattle.run_control.specs.declared.position.Position.{Position}
use Rattle.run_control.specs.declared.position.Move.{Move}
use Rattle.run_control.specs.declared.position.Move.TheVariants.{Task, Passed, Ended}
use Rattle.run_control.specs.Held.{next_of, task_before}
use Rattle.run_control.specs.Work.{work}

-- the run goes on as before. Where no task was taken off there is less to pass
abbrev pub HasMoved : Next → ℕ → Position → Move → Type 0
HasMoved from before p (Task t) = from ≡ task_before t p
HasMoved from before p Passed = (from ≡ next_of p) × (work p < before)
HasMoved from before p Ended = (from ≡ at_end) × (next_of p ≡ at_end)

-- the newest open PERFORM doesn't end where so many paragraphs are left
abbrev pub Stays : List state.Frame → ℕ → Type 0
Stays [] n = Unit {0}
Stays (f ∷ fs) n = f.after ≡ n → ⊥
