use Rattle.std.proofs.Common.{◌≡◌, List}
use Rattle.program_meaning.specs.Job as job
use Rattle.program_meaning.specs.Job.{Going, job_run}
use Rattle.program_meaning.specs.State.{Program}
use Rattle.trial_run.specs.Plans.{program_of, day_of}
use Rattle.trial_run.specs.Runs.{IsRunOf, state_of}
use Rattle.trial_run.proofs.run.Run.run.Given as goal

abbrev pub invariant-loop-left : goal.invariant-loop-left
invariant-loop-left l = record {
  so_far : (ends : List job.End) (rest : List Program) →
      job_run (day_of l.plan) l.fn.bound (Going ends (program_of l.plan) (state_of l.fn.self) rest) ≡ job_run (day_of l.plan) l.left (Going ends (program_of l.plan) (state_of l.self) rest);
  run : IsRunOf l.plan l.self;
}

abbrev pub decreases-loop-left : goal.decreases-loop-left
decreases-loop-left l = l.left
