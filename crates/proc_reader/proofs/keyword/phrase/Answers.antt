use Rattle.std.proofs.Common.{ap, ◌∙◌}
use Rattle.proc_reader.specs.Keywords.{phrase}
use Rattle.cond_reader.specs.Table.{value_of}
use Rattle.proc_reader.proofs.Tables.{phrases-are}
use Rattle.proc_reader.proofs.keyword.phrase.Goals as goal

pub returns : goal.returns
unfolding phrase
returns c = c.value_of.ensures ∙ ap (λ rows. value_of rows c.args.text.now) phrases-are
