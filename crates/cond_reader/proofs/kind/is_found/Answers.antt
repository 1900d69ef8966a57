use Rattle.std.proofs.Common.{◌∙◌}
use Rattle.cond_reader.proofs.kind.is_found.Goals as goal

pub returns : goal.returns
returns c names index = c.contains.ensures ∙ index c.args.text.now
