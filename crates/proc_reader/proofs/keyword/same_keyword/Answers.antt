use Rattle.std.proofs.Common.{rules, sym, ◌∙◌}
use denote.Enum.Bare.{same_true}
use Rattle.proc_reader.specs.contracts.keyword.Keyword.{the_type}
use Rattle.proc_reader.specs.Keywords.{same_keyword}
use Rattle.proc_reader.proofs.keyword.same_keyword.Goals as goal

pub returns-clause-value : goal.returns-clause-value
unfolding same_keyword
returns-clause-value c = search rules

pub returns-clause-same : goal.returns-clause-same
returns-clause-same c is = same_true the_type (search rules) _ _ (sym c.eq.ensures ∙ is)
