use Rattle.std.proofs.Common.{◌∙◌}
use Rattle.fixed_format.proofs.LoopLaws.{counted}
use Rattle.fixed_format.proofs.scan.content_count.Goals as goal

pub returns : goal.returns
returns c = c.count_by_halves.ensures ∙ counted c.args.mark c.args.chars.now
