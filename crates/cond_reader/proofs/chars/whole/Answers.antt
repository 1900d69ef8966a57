use Rattle.std.proofs.Common.{◌∙◌, arith}
use Rattle.cond_reader.proofs.NumberLaws.{whole-empty, whole-some}
use Rattle.cond_reader.proofs.chars.whole.Goals as goal

pub returns-in-empty : goal.returns-in-empty
returns-in-empty c = whole-empty c.args.text.now (omega arith)

pub returns-in_default : goal.returns-in_default
returns-in_default c = c.digits.ensures ∙ whole-some c.args.text.now (omega arith)
