use Rattle.std.proofs.Common.{◌∙◌}
use Rattle.cond_reader.proofs.NumberLaws.{decimal-is}
use Rattle.cond_reader.proofs.chars.decimal.Goals as goal

pub returns : goal.returns
returns c = c.unsigned.ensures ∙ decimal-is c.args.text.now
