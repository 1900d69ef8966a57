use Rattle.std.specs.Prelude.{Bool, false, None}
use Rattle.std.proofs.Common.{ap, sym, ◌∙◌}
use Rattle.program_meaning.specs.Arithmetic.{compute}
use Rattle.program_meaning.specs.Step as meant
use Rattle.program_meaning.specs.Tree as tree
use Rattle.run_control.specs.Held.{read_loop}
use Rattle.tree_reading.specs.Reading.{read_place}
use Rattle.trial_run.specs.Plans.{program_of, day_of}
use Rattle.trial_run.specs.Runs.{world_of, storage_of}
use Rattle.trial_run.proofs.Led.{went_compute}
use Rattle.trial_run.proofs.run.Run.advance.Goals as goal

pub returns-clause-ok : goal.returns-clause-ok
returns-clause-ok c =
    went_compute c.args.self.now c.calculate.new.self c.after_stepping.new.self c.in_ok-calculate.ensures.position _ _
    (λ (error : Bool). meant.advanced (program_of c.args.plan.now) (day_of c.args.plan.now) (read_loop c.args.perform)) _
    (ap (λ (e : tree.Expr). compute (program_of c.args.plan.now).layout (storage_of c.args.self.now) (read_place c.args.vary.now.item) false e None false) (sym c.in_ok-sum.ensures)
    ∙ c.in_ok-calculate.ensures.gives) c.in_ok-calculate.ensures.world
    (c.in_ok-after_stepping.ensures (program_of c.args.plan.now) (day_of c.args.plan.now) (world_of c.calculate.new.self) c.requires.plan.paragraphs)
