use Rattle.std.proofs.Common.{ap, ◌∙◌}
use Rattle.run_control.specs.Held.{point_of, frames_of, read_loop, read_vary_at}
use Rattle.run_control.proofs.Further.{entered_plain}
use Rattle.run_control.proofs.position.Position.perform_until.Goals as goal

pub returns-in_ok-after_setting-in-None : goal.returns-in_ok-after_setting-in-None
returns-in_ok-after_setting-in-None c = λ program day w same.
    entered_plain program day (point_of c.args.self.now) (frames_of c.args.self.now) w (read_loop c.args.perform) (read_loop c.args.perform).vary (ap read_vary_at c.in-None.is)
    ∙ c.in_ok-after_setting-in-None.ensures program day w same
