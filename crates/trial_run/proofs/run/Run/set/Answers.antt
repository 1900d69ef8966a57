use Rattle.program_meaning.specs.Step as meant
use Rattle.run_control.specs.Held.{read_loop}
use Rattle.trial_run.specs.Plans.{program_of, day_of}
use Rattle.trial_run.specs.Runs.{world_of}
use Rattle.trial_run.proofs.Led.{went_store}
use Rattle.trial_run.proofs.run.Run.set.Goals as goal

pub returns-clause-ok : goal.returns-clause-ok
returns-clause-ok c =
    went_store c.args.self.now c.store.new.self c.after_setting.new.self c.in_ok-store.ensures.position _ _
    (meant.begun (program_of c.args.plan.now) (day_of c.args.plan.now) (read_loop c.args.perform))
    c.in_ok-store.ensures.gives c.in_ok-store.ensures.world
    (c.in_ok-after_setting.ensures (program_of c.args.plan.now) (day_of c.args.plan.now) (world_of c.store.new.self) c.requires.plan.paragraphs)
