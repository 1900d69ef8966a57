use Rattle.std.proofs.Common.{◌∙◌}
use Rattle.program_meaning.specs.Step.{after_turn}
use Rattle.run_control.specs.Held.{read_body, read_loop}
use Rattle.run_control.proofs.Further.{turn_pushed}
use Rattle.run_control.proofs.position.Position.turn_until.Goals as goal

pub returns : goal.returns
returns c = λ program day w same.
    turn_pushed program day (read_body c.args.perform.what) (after_turn program day (read_loop c.args.perform)) c.args.self.now c.push_after_turn.new.self w
    (c.in_ok-push_after_turn.ensures.held program day) c.in_ok-push_after_turn.ensures.sentences c.in_ok-push_after_turn.ensures.paragraphs
    ∙ c.in_ok-turn.ensures program day w same
