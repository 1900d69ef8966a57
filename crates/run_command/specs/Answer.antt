-- What `run` answers.
use Rattle.std.specs.Prelude.{◌≡◌, ◌⊎◌, ℕ, List, [], map, Option}
use Rattle.std.specs.Option.{option_map}
use Rattle.answers.specs.Lines.{shelf_fault_line}
use Rattle.answers.specs.Said.{IsPrinted}
use Rattle.data_layout.specs.declared.portfolio.FileUse.{FileUse}
use Rattle.gathered.specs.declared.gathering.Gathered.{Gathered}
use Rattle.job_files.specs.Written.{HasLeft, HasWriteFault, with_run}
use Rattle.job_files.specs.declared.refusal.WriteFault.{WriteFault}
use Rattle.job_files.specs.declared.refusal.WriteFault.TheVariants as fault
use Rattle.layout_reading.specs.Reading.{programs_of}
use Rattle.manifest_load.specs.Documents.{HasManifestRefusal, IsOpened}
use Rattle.manifest_load.specs.declared.open.Opened.{Opened}
use Rattle.manifest_load.specs.declared.refusal.ManifestRefusal.{ManifestRefusal}
use Rattle.portfolio.specs.declared.manifest.Manifest.{Manifest}
use Rattle.portfolio.specs.declared.manifest.Named.{Named}
use Rattle.program_meaning.specs.Job.{JobState, job_after, ends_of, files_of, shown_of}
use Rattle.refusal_lines.specs.Lines as lines
use Rattle.run_lines.specs.Lines.{job_lines, job_status}
use Rattle.seq_files.specs.Disks.{disks}
use Rattle.shelf.specs.Contents.{Files}
use Rattle.trial_run.specs.Answers.{read_day, read_end, read_shown}
use Rattle.trial_run.specs.declared.day.Day.{Day}
use Rattle.trial_run.specs.declared.job.Job.{Job}
use Rattle.trial_run.specs.declared.job.JobEnd.{JobEnd}
use Rattle.run_command.specs.Refused.{HasRunRefusal, IsPrepared, run_line, run_status}
use Rattle.run_command.specs.declared.prepared.Prepared.{Prepared}
use Rattle.run_command.specs.declared.refusal.RunRefusal.{RunRefusal}

-- what stands after a job: its ends, its files and what it showed
pub record IsEnd (after : JobState) (e : JobEnd) : Type 0 where
  pub ends : ends_of after ≡ map read_end e.ends
  pub files : files_of after ≡ disks e.store
  pub shown : shown_of after ≡ map read_shown e.shown

-- a job that was prepared ends so, on a day and within so many steps
abbrev pub IsEndOf : Day → ℕ → Prepared → JobEnd → Type 0
IsEndOf day bound prepared e =
    IsEnd (job_after (read_day day) (programs_of prepared.gathered.portfolio prepared.job.programs) (disks prepared.store) bound) e

-- all that a run leaves is written
abbrev pub IsWritten : Option Files → List Named → List ℕ → List FileUse → JobEnd → Option Files → Type 0
IsWritten told listed out files e now = now ≡ option_map (with_run out files (disks e.store) listed) told

-- some of it is written
abbrev pub IsPartWritten : Option Files → List Named → List ℕ → List FileUse → JobEnd → Option Files → Type 0
IsPartWritten told listed out files e now = HasLeft out files (disks e.store) listed told now

abbrev pub fault_line : WriteFault → List ℕ
fault_line (fault.Shelf name) = shelf_fault_line name
fault_line fault.Memory = []

abbrev pub fault_status : WriteFault → ℕ
fault_status (fault.Shelf name) = 6
fault_status fault.Memory = 8

-- the files of a job that ran are written and its lines are printed, or the shelf failed before all was written
abbrev pub IsOutcome : Option Files → List Named → List ℕ → List FileUse → List ℕ → JobEnd → ℕ → List ℕ → Option Files → Type 0
IsOutcome told listed out files lines e status text now =
    ((status ≡ job_status e.ends) × (text ≡ lines) × IsWritten told listed out files e now)
    ⊎ ((f : WriteFault) × HasWriteFault out listed f × (status ≡ fault_status f) × (text ≡ fault_line f) × IsPartWritten told listed out files e now)

-- where memory runs out before anything is written, all is as it was
abbrev pub IsOrMemory : Option Files → (ℕ → List ℕ → Option Files → Type 0) → ℕ → List ℕ → Option Files → Type 0
IsOrMemory told answer status text now = answer status text now ⊎ ((status ≡ 8) × (text ≡ []) × (now ≡ told))

-- what was shown, and the ends of the programs
abbrev pub lines_of : Manifest → Gathered → Job → JobEnd → List ℕ
lines_of m g job e = job_lines m g.portfolio.programs job.programs e.shown e.ends

abbrev pub IsOutcomeFor : Option Files → Opened → List ℕ → Gathered → Job → JobEnd → ℕ → List ℕ → Option Files → Type 0
IsOutcomeFor told opened out g job e = IsOutcome told opened.manifest.files out g.portfolio.files (lines_of opened.manifest g job e) e

-- a job that was prepared ran
abbrev pub HasRun : Option Files → Opened → List ℕ → Day → ℕ → Prepared → ℕ → List ℕ → Option Files → Type 0
HasRun told opened out day bound prepared status text now =
    (e : JobEnd) × IsEndOf day bound prepared e × IsOutcomeFor told opened out prepared.gathered prepared.job e status text now

abbrev pub IsAnswerOf : Option Files → Opened → List ℕ → Day → ℕ → Prepared → ℕ → List ℕ → Option Files → Type 0
IsAnswerOf told opened out day bound prepared = IsOrMemory told (HasRun told opened out day bound prepared)

-- the job that the shelf holds for the manifest ran, or there is a refusal that has its cause, and all is as it was
abbrev pub IsAnswerFor : Option Files → List ℕ → List ℕ → Day → ℕ → List ℕ → Opened → ℕ → List ℕ → Option Files → Type 0
IsAnswerFor told main job day bound out opened status text now =
    ((prepared : Prepared) × IsPrepared told main job out opened prepared × IsAnswerOf told opened out day bound prepared status text now)
    ⊎ ((r : RunRefusal) × HasRunRefusal told main job out opened r × (status ≡ run_status r) × (text ≡ run_line opened.manifest job out r) × (now ≡ told))

-- the same, or the line that there is no such manifest
abbrev pub IsAnswer : Option Files → List ℕ → List ℕ → Day → ℕ → List ℕ → ℕ → List ℕ → Option Files → Type 0
IsAnswer told main job day bound out status text now =
    ((opened : Opened) × IsOpened main told opened × IsAnswerFor told main job day bound out opened status text now)
    ⊎ ((r : ManifestRefusal) × HasManifestRefusal main told r × (status ≡ lines.manifest_status r) × (text ≡ lines.manifest_line main r) × (now ≡ told))

-- such an answer is printed; or else the sink failed (7) or memory ran out (8) while it was, and the shelf is as in that
-- answer
abbrev pub IsAnswered : (ℕ → List ℕ → Option Files → Type 0) → Option (List ℕ) → Option (List ℕ) → Option Files → ℕ → Type 0
IsAnswered answer before after now status =
    ((text : List ℕ) × IsPrinted text before after × answer status text now)
    ⊎ (((status ≡ 7) ⊎ (status ≡ 8)) × ((wanted : ℕ) × (text : List ℕ) × answer wanted text now))
