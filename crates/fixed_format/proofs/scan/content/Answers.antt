use Rattle.std.proofs.Common.{[], ◌∙◌}
use Rattle.fixed_format.proofs.LoopLaws.{content_halves}
use Rattle.fixed_format.proofs.scan.content.Goals as goal

pub returns-in-Ok : goal.returns-in-Ok
returns-in-Ok c = c.in-Ok.ensures ∙ content_halves c.args.mark [] c.args.chars.now
