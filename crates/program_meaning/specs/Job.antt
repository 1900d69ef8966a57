-- A job: its programs one after the other.
use Rattle.std.specs.Prelude.{ℕ, zero, suc, List, [], ◌∷◌, ◌++◌}
use Rattle.program_meaning.specs.Answer.{Fault}
use Rattle.program_meaning.specs.Tree.{StatementId}
use Rattle.program_meaning.specs.Files.{Disk, closed}
use Rattle.program_meaning.specs.State.{Program, Shown, World, State, Running, Stopped, Faulted}
use Rattle.program_meaning.specs.Step.{Calendar, step, initial}

-- how a program ended: by STOP RUN, or at a statement by a fault; or it is still running
pub data End : Type 0 where
  Ended : End
  Failed : (fault : Fault) (at : StatementId) → End
  Open : End

-- the programs that have ended, and then: the state of the running one with those after it, or the end of the job
pub data JobState : Type 0 where
  Going : (ends : List End) (program : Program) (state : State) (rest : List Program) → JobState
  Over : (ends : List End) (files : List Disk) (shown : List Shown) → JobState

-- the next program begins with all files closed
abbrev pub next_program : List End → List Program → List Disk → List Shown → JobState
next_program ends [] files shown = Over ends files shown
next_program ends (p ∷ ps) files shown = Going ends p (initial p (closed files) shown) ps

-- a program that has stopped is followed by the next at once; a fault ends the job
abbrev pub passed_on : List End → Program → List Program → State → JobState
passed_on ends p ps (Running at frames w) = Going ends p (Running at frames w) ps
passed_on ends p ps (Stopped w) = next_program (ends ++ Ended ∷ []) ps w.files w.shown
passed_on ends p ps (Faulted e id w) = Over (ends ++ Failed e id ∷ []) w.files w.shown

abbrev pub job_step : Calendar → JobState → JobState
job_step day (Going ends p s ps) = passed_on ends p ps (step p day s)
job_step day (Over ends files shown) = Over ends files shown

abbrev pub job_run : Calendar → ℕ → JobState → JobState
job_run day zero j = j
job_run day (suc n) j = job_run day n (job_step day j)

abbrev pub job_start : List Program → List Disk → JobState
job_start ps files = next_program [] ps files []

-- what stands after at most n steps
abbrev pub job_after : Calendar → List Program → List Disk → ℕ → JobState
job_after day ps files n = job_run day n (job_start ps files)

abbrev pub world_of : State → World
world_of (Running at frames w) = w
world_of (Stopped w) = w
world_of (Faulted e id w) = w

abbrev pub ends_of : JobState → List End
ends_of (Going ends p s ps) = ends ++ Open ∷ []
ends_of (Over ends files shown) = ends

abbrev pub files_of : JobState → List Disk
files_of (Going ends p s ps) = (world_of s).files
files_of (Over ends files shown) = files

abbrev pub shown_of : JobState → List Shown
shown_of (Going ends p s ps) = (world_of s).shown
shown_of (Over ends files shown) = shown
