use Rattle.std.specs.Prelude.{Bool, cond}
use Rattle.std.proofs.Common.{ap, sym, ◌∙◌}
use Rattle.program_meaning.specs.Step as meant
use Rattle.program_meaning.specs.Tree as tree
use Rattle.run_control.specs.Held.{point_of, frames_of}
use Rattle.tree_reading.specs.Reading.{read_id, read_statements}
use Rattle.trial_run.specs.Plans.{program_of, day_of}
use Rattle.trial_run.specs.Runs.{world_of}
use Rattle.trial_run.proofs.Led.{went_value}
use Rattle.trial_run.proofs.run.Run.do_if.Goals as goal

pub returns-clause-ok : goal.returns-clause-ok
returns-clause-ok c =
    went_value c.args.self.now c.holds.new.self c.begin.new.self c.in_ok-holds.ensures.position (read_id c.args.id) _
    (λ (holds : Bool). meant.begin (program_of c.args.plan.now) (day_of c.args.plan.now) (cond holds (read_statements c.args.body.now) (read_statements c.args.other.now))) c.in_ok-holds.holds
    c.in_ok-holds.ensures.gives c.in_ok-holds.ensures.same
    (ap (λ (ss : tree.Statements). meant.begin (program_of c.args.plan.now) (day_of c.args.plan.now) ss (point_of c.holds.new.self.position) (frames_of c.holds.new.self.position) (world_of c.holds.new.self)) (sym c.list_by_test.ensures)
    ∙ c.in_ok-begin.ensures (program_of c.args.plan.now) (day_of c.args.plan.now) (world_of c.holds.new.self))
