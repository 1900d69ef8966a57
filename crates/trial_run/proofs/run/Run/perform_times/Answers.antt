use Rattle.std.proofs.Common.{ap, sym, ◌∙◌, ℤ, SFits, rules}
use Rattle.std.proofs.lemmas.Int.{to_z-of_z}
use Rattle.std.specs.Int.{w128}
use Rattle.program_meaning.specs.Arithmetic.{Scaled}
use Rattle.program_meaning.specs.Step as meant
use Rattle.number_bytes.specs.Held.{read_scaled}
use Rattle.run_control.specs.Held.{read_body, point_of, frames_of}
use Rattle.tree_reading.specs.Reading.{read_id}
use Rattle.trial_run.specs.Plans.{program_of, day_of}
use Rattle.trial_run.specs.Runs.{world_of}
use Rattle.trial_run.proofs.Led.{went_value}
use Rattle.trial_run.proofs.run.Run.perform_times.Goals as goal

pub returns-clause-ok : goal.returns-clause-ok
returns-clause-ok c =
    let fits : SFits w128 c.in_ok-turns.turns.number = search rules in
    went_value c.args.self.now c.number.new.self c.perform_times.new.self c.in_ok-turns.ensures.position _ _
    (λ (n : Scaled). meant.times_turn (program_of c.args.plan.now) (day_of c.args.plan.now) (read_id c.args.id) (read_body c.args.what) (meant.turns n.number)) (read_scaled c.in_ok-turns.turns)
    c.in_ok-turns.ensures.gives c.in_ok-turns.ensures.same
    (ap (λ (z : ℤ). meant.times_turn (program_of c.args.plan.now) (day_of c.args.plan.now) (read_id c.args.id) (read_body c.args.what) (meant.turns z) (point_of c.number.new.self.position) (frames_of c.number.new.self.position) (world_of c.number.new.self)) (sym (to_z-of_z w128 c.in_ok-turns.turns.number fits))
    ∙ c.in_ok-perform_times.ensures (program_of c.args.plan.now) (day_of c.args.plan.now) (world_of c.number.new.self) c.requires.plan.paragraphs)
