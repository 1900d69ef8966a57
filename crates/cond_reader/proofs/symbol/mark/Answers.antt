use Rattle.std.proofs.Common.{ap, ◌∙◌}
use Rattle.cond_reader.specs.Symbols.{mark}
use Rattle.cond_reader.specs.Table.{value_of}
use Rattle.cond_reader.proofs.Tables.{marks-are}
use Rattle.cond_reader.proofs.symbol.mark.Goals as goal

pub returns : goal.returns
unfolding mark
returns c = c.value_of.ensures ∙ ap (λ rows. value_of rows c.args.text.now) marks-are
