use Rattle.std.proofs.Common.{ap, ◌∙◌}
use Rattle.program_reader.specs.Terms.{division_term}
use Rattle.cond_reader.specs.Table.{value_of}
use Rattle.program_reader.proofs.Tables.{division-words-are}
use Rattle.program_reader.proofs.term.division_term.Goals as goal

pub returns : goal.returns
unfolding division_term
returns c = c.value_of.ensures ∙ ap (λ rows. value_of rows c.args.text.now) division-words-are
