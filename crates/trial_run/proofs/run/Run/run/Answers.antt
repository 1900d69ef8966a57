use Rattle.std.proofs.Common.{◌≡◌, ◌-◌, suc, ◌∙◌, arith}
use Rattle.trial_run.specs.Plans.{program_of, day_of}
use Rattle.trial_run.specs.Runs.{state_of}
use Rattle.trial_run.proofs.Ended.{step_on, step_stopped, step_failed}
use Rattle.trial_run.proofs.run.Run.run.Goals as goal

pub loop-left-preserved : goal.loop-left-preserved
loop-left-preserved c =
    let more : c.loop-left.left ≡ suc (c.loop-left.left - 1) = omega (arith, c.loop-left-test.true) in
    record {
      so_far = λ ends rest.
          c.loop-left.invariant.so_far ends rest
          ∙ step_on (day_of c.args.plan.now) (program_of c.args.plan.now) ends rest (state_of c.loop-left.self) c.loop-left.left (c.loop-left.left - 1) c.step.new.self c.in_ok-step.field-0
          more c.in-On.is c.in_ok-step.ensures.step;
      run = c.in_ok-step.ensures.run;
    }

pub returns-in-Stopped : goal.returns-in-Stopped
returns-in-Stopped c = λ ends rest.
    let more : c.loop-left.left ≡ suc (c.loop-left.left - 1) = omega (arith, c.loop-left-test.true) in
    c.loop-left.invariant.so_far ends rest
    ∙ step_stopped (day_of c.args.plan.now) (program_of c.args.plan.now) ends rest (state_of c.loop-left.self) c.loop-left.left (c.loop-left.left - 1) c.step.new.self c.in_ok-step.field-0
    more c.in-Stopped.is c.in_ok-step.ensures.step

pub returns-in-Failed : goal.returns-in-Failed
returns-in-Failed c = λ ends rest.
    let more : c.loop-left.left ≡ suc (c.loop-left.left - 1) = omega (arith, c.loop-left-test.true) in
    c.loop-left.invariant.so_far ends rest
    ∙ step_failed (day_of c.args.plan.now) (program_of c.args.plan.now) ends rest (state_of c.loop-left.self) c.loop-left.left (c.loop-left.left - 1) c.step.new.self c.in_ok-step.field-0
    c.in-Failed.kind c.in-Failed.at more c.in-Failed.is c.in_ok-step.ensures.step
