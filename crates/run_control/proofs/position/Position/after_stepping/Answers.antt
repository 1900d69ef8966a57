use Rattle.std.proofs.Common.{◌∙◌}
use Rattle.run_control.specs.Held.{point_of, frames_of, read_loop}
use Rattle.run_control.proofs.Further.{advanced_after}
use Rattle.run_control.proofs.position.Position.after_stepping.Goals as goal

pub returns-in_ok-turn_until : goal.returns-in_ok-turn_until
returns-in_ok-turn_until c = λ program day w same.
    advanced_after program day (point_of c.args.self.now) (frames_of c.args.self.now) w (read_loop c.args.perform) c.if-perform.true ∙ c.in_ok-turn_until.ensures program day w same
