use Rattle.std.specs.Prelude.{ℕ, Bool}
use Rattle.std.proofs.Common.{ap, ap₂, sym, ◌∙◌}
use Rattle.program_channels.specs.Channel.{read_channel}
use Rattle.program_meaning.specs.State.{World}
use Rattle.program_meaning.specs.Step as meant
use Rattle.program_meaning.specs.Tree as tree
use Rattle.run_control.specs.Held.{point_of, frames_of}
use Rattle.run_control.specs.declared.position.Position.{Position}
use Rattle.seq_files.specs.Codes.{code}
use Rattle.tree_reading.specs.Reading.{read_id, place_if}
use Rattle.trial_run.specs.Branches.{branch_if}
use Rattle.trial_run.specs.Plans.{program_of, day_of}
use Rattle.trial_run.specs.Runs.{world_of}
use Rattle.trial_run.proofs.Called.{for_told}
use Rattle.trial_run.proofs.run.Run.do_read.Goals as goal

pub returns-in_ok-begin-in-Some-clause-ok : goal.returns-in_ok-begin-in-Some-clause-ok
returns-in_ok-begin-in-Some-clause-ok c =
    for_told (program_of c.args.plan.now) (day_of c.args.plan.now) (read_id c.args.id) (world_of c.args.self.now) c.args.name.now
    (λ (status : ℕ) (w : World). meant.begin (program_of c.args.plan.now) (day_of c.args.plan.now) (meant.by_status status (branch_if c.args.end.now)) (point_of c.args.self.now.position) (frames_of c.args.self.now.position) w)
    (read_channel c.in-Some.channel) (meant.read_record (program_of c.args.plan.now) (day_of c.args.plan.now) (world_of c.args.self.now) (place_if c.args.into.now) (meant.has_end (branch_if c.args.end.now)))
    (code c.in_ok-status-in-Some.status) (world_of c.read.new.self) (sym c.in-Some.ensures.found)
    (ap (λ (b : Bool). meant.read_record (program_of c.args.plan.now) (day_of c.args.plan.now) (world_of c.args.self.now) (place_if c.args.into.now) b (read_channel c.in-Some.channel)) (sym c.has_end.ensures)
    ∙ c.in_ok-status-in-Some.ensures.ok)
    ∙ ap₂ (λ (ss : tree.Statements) (p : Position). meant.begin (program_of c.args.plan.now) (day_of c.args.plan.now) ss (point_of p) (frames_of p) (world_of c.read.new.self)) (sym c.list_by_status.ensures) (sym c.in_ok-status-in-Some.ensures.position)
    ∙ c.in_ok-begin-in-Some.ensures (program_of c.args.plan.now) (day_of c.args.plan.now) (world_of c.read.new.self)
