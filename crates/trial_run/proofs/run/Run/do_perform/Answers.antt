use Rattle.std.proofs.Common.{ap, ◌∙◌}
use Rattle.cobol_syntax.specs.declared.statement.Control.{Control}
use Rattle.program_meaning.specs.Step as meant
use Rattle.run_control.specs.Held.{read_body, point_of, frames_of}
use Rattle.tree_reading.specs.Reading.{read_id, read_control}
use Rattle.trial_run.specs.Plans.{program_of, day_of}
use Rattle.trial_run.specs.Runs.{world_of}
use Rattle.trial_run.proofs.run.Run.do_perform.Goals as goal

pub returns-in_ok-turn-in-Once-clause-ok : goal.returns-in_ok-turn-in-Once-clause-ok
returns-in_ok-turn-in-Once-clause-ok c =
    ap (λ (k : Control). meant.perform (program_of c.args.plan.now) (day_of c.args.plan.now) (read_id c.args.id) (read_body c.args.what) (read_control k) (point_of c.args.self.now.position) (frames_of c.args.self.now.position) (world_of c.args.self.now)) c.in-Once.is
    ∙ c.in_ok-turn-in-Once.ensures (program_of c.args.plan.now) (day_of c.args.plan.now) (world_of c.args.self.now) c.requires.plan.paragraphs
