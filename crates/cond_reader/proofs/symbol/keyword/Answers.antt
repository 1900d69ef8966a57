use Rattle.std.proofs.Common.{ap, ◌∙◌}
use Rattle.cond_reader.specs.Symbols.{keyword}
use Rattle.cond_reader.specs.Table.{value_of}
use Rattle.cond_reader.proofs.Tables.{keywords-are}
use Rattle.cond_reader.proofs.symbol.keyword.Goals as goal

pub returns : goal.returns
unfolding keyword
returns c = c.value_of.ensures ∙ ap (λ rows. value_of rows c.args.text.now) keywords-are
