use Rattle.run_control.proofs.Settled.{of_front}
use Rattle.run_control.proofs.position.Position.go_on.Goals as goal

pub returns-in_ok-push-in-len1-up : goal.returns-in_ok-push-in-len1-up
returns-in_ok-push-in-len1-up c =
    of_front c.args.self.now c.push.new.self c.args.list.now c.statement-item.result c.in-len1-up.len_at_least c.statement-item.is
    c.in_ok-push-in-len1-up.ensures.held c.in_ok-push-in-len1-up.ensures.sentences c.in_ok-push-in-len1-up.ensures.paragraphs
