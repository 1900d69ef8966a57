use Rattle.std.proofs.Common.{sym, ap, ◌∙◌}
use Rattle.std.specs.Prelude.{option_map}
use Rattle.statement_places.specs.Parts.{seen}
use Rattle.statement_words.specs.Groups.{received}
use Rattle.statement_words.proofs.Grouped.{none_with}
use Rattle.statement_words.proofs.group.count_more.Goals as goal

pub returns-in-None-clause-count : goal.returns-in-None-clause-count
returns-in-None-clause-count c = none_with (seen c.args.first) c.args.more.now (sym c.receiver_of.ensures ∙ ap (option_map received) c.in-None.is)
