use Rattle.std.proofs.Common.{◌≡◌, length}
use Rattle.std.specs.List.{AllByRecursion}
use Rattle.layout_reading.specs.Reading.{programs_of}
use Rattle.program_meaning.specs.Job.{job_run}
use Rattle.trial_run.specs.Answers.{read_day}
use Rattle.trial_run.specs.Jobs.{IsNumberIn, state_before}
use Rattle.trial_run.proofs.progress.Progress.run_all.Given as goal

abbrev pub invariant-loop-rest : goal.invariant-loop-rest
invariant-loop-rest l = record {
  so_far : job_run (read_day l.day) l.fn.self.left (state_before (programs_of l.portfolio l.numbers) l.fn.self)
      ≡ job_run (read_day l.day) l.self.left (state_before (programs_of l.portfolio l.rest) l.self);
  numbers : AllByRecursion (IsNumberIn l.portfolio) l.rest;
}

abbrev pub decreases-loop-rest : goal.decreases-loop-rest
decreases-loop-rest l = length l.rest
