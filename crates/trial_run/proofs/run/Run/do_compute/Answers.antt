use Rattle.std.specs.Prelude.{Bool}
use Rattle.std.proofs.Common.{ap, sym, ◌∙◌}
use Rattle.program_meaning.specs.Arithmetic.{compute}
use Rattle.program_meaning.specs.Step as meant
use Rattle.program_meaning.specs.Tree as tree
use Rattle.run_control.specs.Held.{point_of, frames_of}
use Rattle.tree_reading.specs.Reading.{read_id, read_place, read_expr, place_if}
use Rattle.trial_run.specs.Branches.{branch_if}
use Rattle.trial_run.specs.Plans.{program_of, day_of}
use Rattle.trial_run.specs.Runs.{world_of, storage_of}
use Rattle.trial_run.proofs.Led.{went_compute}
use Rattle.trial_run.proofs.run.Run.do_compute.Goals as goal

pub returns-clause-ok : goal.returns-clause-ok
returns-clause-ok c =
    went_compute c.args.self.now c.calculate.new.self c.begin.new.self c.in_ok-error.ensures.position (read_id c.args.id) _
    (λ (error : Bool). meant.begin (program_of c.args.plan.now) (day_of c.args.plan.now) (meant.by_size error (branch_if c.args.size.now))) c.in_ok-error.error
    (ap (λ (b : Bool). compute (program_of c.args.plan.now).layout (storage_of c.args.self.now) (read_place c.args.to.now) c.args.rounded (read_expr c.args.value.now) (place_if c.args.rest.now) b) (sym c.has_size.ensures)
    ∙ c.in_ok-error.ensures.gives) c.in_ok-error.ensures.world
    (ap (λ (ss : tree.Statements). meant.begin (program_of c.args.plan.now) (day_of c.args.plan.now) ss (point_of c.calculate.new.self.position) (frames_of c.calculate.new.self.position) (world_of c.calculate.new.self)) (sym c.list_by_size.ensures)
    ∙ c.in_ok-begin.ensures (program_of c.args.plan.now) (day_of c.args.plan.now) (world_of c.calculate.new.self))
