-- Programs and jobs from their beginning to their end.
use Rattle.std.specs.Prelude.{◌≡◌, ◌<◌, ℕ, List, [], ◌∷◌, ◌++◌, length, map}
use Rattle.data_layout.specs.declared.item.Layout.{Layout}
use Rattle.data_layout.specs.declared.portfolio.Portfolio.{Portfolio}
use Rattle.layout_reading.specs.Numbered.{AreNumbered}
use Rattle.layout_reading.specs.Reading.{first_area}
use Rattle.program_meaning.specs.Files.{Disk}
use Rattle.program_meaning.specs.Job.{JobState, Going, Over, Ended, Failed, job_run, next_program, ends_of, files_of, shown_of}
use Rattle.program_meaning.specs.Job as job
use Rattle.program_meaning.specs.State.{Program}
use Rattle.program_meaning.specs.State as state
use Rattle.program_meaning.specs.Step.{Calendar}
use Rattle.seq_files.specs.Disks.{disks}
use Rattle.tree_reading.specs.Reading.{read_id}
use Rattle.trial_run.specs.Answers.{read_kind, read_end, read_shown}
use Rattle.trial_run.specs.Plans.{program_of, day_of}
use Rattle.trial_run.specs.Runs.{world_of, state_of}
use Rattle.trial_run.specs.declared.end.End.{End}
use Rattle.trial_run.specs.declared.end.End.TheVariants as end
use Rattle.trial_run.specs.declared.plan.Plan.{Plan}
use Rattle.trial_run.specs.declared.progress.Progress.{Progress}
use Rattle.trial_run.specs.declared.run.Run.{Run}

-- how a program of a job has ended, where these ended before it and these come after it, and steps are left
abbrev pub HasEnded : Plan → Run → JobState → List job.End → List Program → End → ℕ → Type 0
HasEnded plan run j ends rest end.Stopped left =
    j ≡ job_run (day_of plan) left (next_program (ends ++ Ended ∷ []) rest (world_of run).files (world_of run).shown)
HasEnded plan run j ends rest (end.Fault kind at) left = j ≡ Over (ends ++ Failed (read_kind kind) (read_id at) ∷ []) (world_of run).files (world_of run).shown
HasEnded plan run j ends rest end.Running left = j ≡ Going ends (program_of plan) (state_of run) rest

-- what stands between two programs of a job, with these programs still to come
abbrev pub state_before : List Program → Progress → JobState
state_before rest p = next_program (map read_end p.ends) rest (disks p.store) (map read_shown p.shown)

-- a job that has come to this answers these ends, files and pieces
pub record Answers (j : JobState) (es : List End) (ds : List Disk) (ss : List state.Shown) : Type 0 where
  pub ends : ends_of j ≡ map read_end es
  pub files : files_of j ≡ ds
  pub shown : shown_of j ≡ ss

-- where a program has ended by STOP RUN the job goes on with the steps that are left; else this is its answer
abbrev pub HasPassed : Calendar → JobState → List Program → Progress → End → Type 0
HasPassed day j rest p end.Stopped = j ≡ job_run day p.left (state_before rest p)
HasPassed day j rest p (end.Fault kind at) = Answers j p.ends (disks p.store) (map read_shown p.shown)
HasPassed day j rest p end.Running = Answers j p.ends (disks p.store) (map read_shown p.shown)

-- the areas of a layout follow one another
abbrev pub HasNumbers : Layout → Type 0
HasNumbers l = AreNumbered (first_area l.areas) l.areas

-- a number of a program of the portfolio, and of its layout
pub record IsNumberIn (portfolio : Portfolio) (number : ℕ) : Type 0 where
  pub program : number < length portfolio.programs
  pub layout : number < length portfolio.layouts
