use Rattle.std.proofs.Common.{ap, ◌∙◌}
use Rattle.run_control.specs.Held.{point_of, frames_of, read_loop, read_vary_at}
use Rattle.run_control.proofs.Further.{further_plain, further_before}
use Rattle.run_control.proofs.position.Position.further_turn.Goals as goal

pub returns-in_ok-turn_until-in-None : goal.returns-in_ok-turn_until-in-None
returns-in_ok-turn_until-in-None c = λ program day w same.
    further_plain program day (point_of c.args.self.now) (frames_of c.args.self.now) w (read_loop c.args.perform) c.args.perform.after (read_loop c.args.perform).vary c.if-perform.true (ap read_vary_at c.in-None.is)
    ∙ c.in_ok-turn_until-in-None.ensures program day w same

pub returns-in_ok-turn_until : goal.returns-in_ok-turn_until
returns-in_ok-turn_until c = λ program day w same.
    further_before program day (point_of c.args.self.now) (frames_of c.args.self.now) w (read_loop c.args.perform) c.args.perform.after (read_loop c.args.perform).vary c.if-perform.false
    ∙ c.in_ok-turn_until.ensures program day w same
