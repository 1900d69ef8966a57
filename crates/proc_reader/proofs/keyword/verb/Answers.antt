use Rattle.std.proofs.Common.{ap, ◌∙◌}
use Rattle.proc_reader.specs.Keywords.{verb}
use Rattle.cond_reader.specs.Table.{value_of}
use Rattle.proc_reader.proofs.Tables.{verbs-are}
use Rattle.proc_reader.proofs.keyword.verb.Goals as goal

pub returns : goal.returns
unfolding verb
returns c = c.value_of.ensures ∙ ap (λ rows. value_of rows c.args.text.now) verbs-are
