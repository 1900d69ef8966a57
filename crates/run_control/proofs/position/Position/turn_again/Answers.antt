use Rattle.std.proofs.Common.{◌∙◌, ◌∷◌, [], ◌-◌, arith}
use Rattle.tree_reading.specs.Reading.{read_id}
use Rattle.program_meaning.specs.State.{Turn}
use Rattle.run_control.specs.Held.{point_of, frames_of, read_body}
use Rattle.run_control.proofs.Further.{times_one, times_more, turn_pushed}
use Rattle.run_control.proofs.position.Position.turn_again.Goals as goal

pub returns-in_ok-turn-in-1 : goal.returns-in_ok-turn-in-1
returns-in_ok-turn-in-1 c = λ program day w same.
    times_one program day (point_of c.args.self.now) (frames_of c.args.self.now) w (read_id c.args.id) (read_body c.args.what) c.args.left (omega arith)
    ∙ c.in_ok-turn-in-1.ensures program day w same

pub returns-in_ok-turn-in_default : goal.returns-in_ok-turn-in_default
returns-in_ok-turn-in_default c = λ program day w same.
    times_more program day (point_of c.args.self.now) (frames_of c.args.self.now) w (read_id c.args.id) (read_body c.args.what) c.args.left (omega arith)
    ∙ turn_pushed program day (read_body c.args.what) (Turn (read_id c.args.id) (read_body c.args.what) (c.args.left - 1) ∷ []) c.args.self.now c.push.new.self w
    c.in_ok-push-in_default.ensures.held c.in_ok-push-in_default.ensures.sentences c.in_ok-push-in_default.ensures.paragraphs
    ∙ c.in_ok-turn-in_default.ensures program day w same
