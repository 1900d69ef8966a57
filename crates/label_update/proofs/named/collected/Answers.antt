use Rattle.std.proofs.Common.{◌∙◌}
use Rattle.std.specs.BTreeSet.{IsFromIterResult}
use Rattle.std.proofs.lemmas.Iterator.Adapters.{YieldsList-from_vec, fact_from_collect}
use Rattle.label_update.specs.Named.{named_cmp}
use Rattle.label_update.proofs.named.collected.Goals as goal

pub returns : goal.returns
returns c =
    fact_from_collect (IsFromIterResult named_cmp) c.collect.result c.collect.ensures.ran
    (YieldsList-from_vec {s = c.into_iter.result} c.args.facts.items c.into_iter.ensures.rest (c.into_iter.ensures.len ∙ c.args.facts.ok.0))
