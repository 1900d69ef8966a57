use Rattle.std.proofs.Common.{◌++◌, ◌∙◌, ap, sym, List}
use Rattle.std.proofs.lemmas.List.{append-nil}
use Rattle.label_update.specs.declared.named.NamedFact.{NamedFact}
use Rattle.label_update.proofs.Sets.{without_all}
use Rattle.label_update.proofs.live.without.Goals as goal

pub returns : goal.returns
returns c =
    without_all c.args.facts.now.keys c.args.others.now.keys c.loop-fact.kept c.difference-fact-items.ensures.ordered_self
    (sym (append-nil c.loop-fact.kept) ∙ ap (λ (left : List NamedFact). c.loop-fact.kept ++ left) (sym c.in-None.ensures.steps.0) ∙ c.loop-fact.invariant)
