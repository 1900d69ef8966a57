-- What a job is asked and answers, as the meaning of programs has it.
use Rattle.program_meaning.specs.Answer as answer
use Rattle.program_meaning.specs.Answer.{Fault}
use Rattle.program_meaning.specs.Job as job
use Rattle.program_meaning.specs.State as state
use Rattle.program_meaning.specs.Step.{Calendar}
use Rattle.tree_reading.specs.Reading.{read_id}
use Rattle.trial_run.specs.declared.day.Day.{Day}
use Rattle.trial_run.specs.declared.end.End.{End}
use Rattle.trial_run.specs.declared.end.End.TheVariants as end
use Rattle.trial_run.specs.declared.end.FaultKind.{FaultKind}
use Rattle.trial_run.specs.declared.end.FaultKind.TheVariants as kind
use Rattle.trial_run.specs.declared.job.Shown.{Shown}

abbrev pub read_day : Day → Calendar
read_day d = record { yy = d.yy; mm = d.mm; dd = d.dd }

abbrev pub read_kind : FaultKind → Fault
read_kind kind.Data = answer.Data
read_kind kind.Range = answer.Range
read_kind kind.Zero = answer.Zero
read_kind kind.Wide = answer.Wide
read_kind kind.File = answer.File

abbrev pub read_end : End → job.End
read_end end.Stopped = job.Ended
read_end (end.Fault kind at) = job.Failed (read_kind kind) (read_id at)
read_end end.Running = job.Open

abbrev pub read_shown : Shown → state.Shown
read_shown s = record { at = read_id s.at; parts = s.parts }
