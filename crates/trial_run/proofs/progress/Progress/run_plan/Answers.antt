use Rattle.std.specs.Prelude.{ℕ, [], ◌∷◌, ◌++◌, map}
use Rattle.std.proofs.Common.{ap, refl, subst, ◌∙◌, List}
use Rattle.program_meaning.specs.Job.{job_run, Going}
use Rattle.program_meaning.specs.State.{State}
use Rattle.trial_run.specs.Answers.{read_end}
use Rattle.trial_run.specs.Jobs.{HasEnded}
use Rattle.trial_run.specs.Plans.{program_of, day_of}
use Rattle.trial_run.specs.Runs.{state_of}
use Rattle.trial_run.specs.declared.end.End.{End}
use Rattle.trial_run.proofs.Ended.{passed}
use Rattle.trial_run.proofs.progress.Progress.run_plan.Goals as goal

pub returns : goal.returns
returns c = λ rest.
    passed c.args.plan.now c.run.new.self c.args.self.now.ends _ rest
    (record { ends = c.push.new.self; store = c.take_back.new.self.store; shown = c.take_back.new.self.shown; left = c.in_ok-ran.ran.left })
    c.in_ok-take_back.ensures.files c.in_ok-take_back.ensures.shown c.in_ok-ran.ran.end c.in_ok-ran.ran.left refl
    (c.in_ok-push.ensures.ok ∙ ap (λ (es : List End). es ++ c.in_ok-ran.ran.end ∷ []) (c.in_ok-take_back.ensures.ends ∙ c.in_ok-run.ensures.ends))
    (subst (λ (s : State). HasEnded c.args.plan.now c.run.new.self (job_run (day_of c.args.plan.now) c.args.self.now.left (Going (map read_end c.args.self.now.ends) (program_of c.args.plan.now) s rest)) (map read_end c.args.self.now.ends) rest c.in_ok-ran.ran.end c.in_ok-ran.ran.left) c.in_ok-run.ensures.state
    (subst (λ (n : ℕ). HasEnded c.args.plan.now c.run.new.self (job_run (day_of c.args.plan.now) n (Going (map read_end c.args.self.now.ends) (program_of c.args.plan.now) (state_of c.in_ok-run.run') rest)) (map read_end c.args.self.now.ends) rest c.in_ok-ran.ran.end c.in_ok-ran.ran.left) c.in_ok-run.ensures.left
    (c.in_ok-ran.ensures (map read_end c.args.self.now.ends) rest)))
