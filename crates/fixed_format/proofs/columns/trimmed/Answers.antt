use Rattle.std.proofs.Common.{◌∙◌}
use Rattle.fixed_format.proofs.LoopLaws.{trimmed_back}
use Rattle.fixed_format.proofs.columns.trimmed.Goals as goal

pub returns : goal.returns
returns c = c.without_last_spaces.ensures ∙ trimmed_back c.args.cells.now
