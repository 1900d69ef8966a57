use Rattle.std.proofs.Common.{◌-◌, List, length, take, drop, ap, ◌∙◌}
use Rattle.layout_reading.specs.Reading.{programs_of}
use Rattle.program_meaning.specs.Job.{job_run}
use Rattle.program_meaning.specs.State.{Program}
use Rattle.trial_run.specs.Answers.{read_day}
use Rattle.trial_run.specs.Jobs.{IsNumberIn, state_before}
use Rattle.trial_run.proofs.Ended.{next_number, others_too, goes_on, gives_up, is_cut_off, answers_same, all_over}
use Rattle.trial_run.proofs.progress.Progress.run_all.Goals as goal

pub returns-in-Fault : goal.returns-in-Fault
returns-in-Fault c =
    answers_same _ _ _ _ _
    (c.loop-rest.invariant.so_far ∙ ap (λ (ps : List Program). job_run (read_day c.args.day) c.loop-rest.self.left (state_before ps c.loop-rest.self)) (next_number c.args.portfolio.now c.loop-rest.rest.now c.in-len1-up.len_at_least))
    (gives_up (read_day c.args.day) _ (programs_of c.args.portfolio.now (take (length c.loop-rest.rest.now - 1) (drop 1 c.loop-rest.rest.now))) c.run_program.new.self c.in_ok-run_program.field-0
    (c.in_ok-run_program.ensures (programs_of c.args.portfolio.now (take (length c.loop-rest.rest.now - 1) (drop 1 c.loop-rest.rest.now)))) c.in-Fault.kind c.in-Fault.at c.in-Fault.is)

pub returns-in-Running : goal.returns-in-Running
returns-in-Running c =
    answers_same _ _ _ _ _
    (c.loop-rest.invariant.so_far ∙ ap (λ (ps : List Program). job_run (read_day c.args.day) c.loop-rest.self.left (state_before ps c.loop-rest.self)) (next_number c.args.portfolio.now c.loop-rest.rest.now c.in-len1-up.len_at_least))
    (is_cut_off (read_day c.args.day) _ (programs_of c.args.portfolio.now (take (length c.loop-rest.rest.now - 1) (drop 1 c.loop-rest.rest.now))) c.run_program.new.self c.in_ok-run_program.field-0
    (c.in_ok-run_program.ensures (programs_of c.args.portfolio.now (take (length c.loop-rest.rest.now - 1) (drop 1 c.loop-rest.rest.now)))) c.in-Running.is)

pub loop-rest-preserved : goal.loop-rest-preserved
loop-rest-preserved c = record {
  so_far =
      c.loop-rest.invariant.so_far ∙ ap (λ (ps : List Program). job_run (read_day c.args.day) c.loop-rest.self.left (state_before ps c.loop-rest.self)) (next_number c.args.portfolio.now c.loop-rest.rest.now c.in-len1-up.len_at_least)
      ∙ goes_on (read_day c.args.day) _ (programs_of c.args.portfolio.now (take (length c.loop-rest.rest.now - 1) (drop 1 c.loop-rest.rest.now))) c.run_program.new.self c.in_ok-run_program.field-0
      (c.in_ok-run_program.ensures (programs_of c.args.portfolio.now (take (length c.loop-rest.rest.now - 1) (drop 1 c.loop-rest.rest.now)))) c.in-Stopped.is;
  numbers = others_too (IsNumberIn c.args.portfolio.now) c.loop-rest.rest.now c.in-len1-up.len_at_least c.loop-rest.invariant.numbers;
}

pub returns : goal.returns
returns c =
    answers_same _ _ _ _ _ c.loop-rest.invariant.so_far
    (all_over (read_day c.args.day) c.args.portfolio.now c.loop-rest.rest.now c.loop-rest.self.left c.loop-rest.self c.in_default.len_below)
