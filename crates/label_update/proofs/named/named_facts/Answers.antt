use Rattle.std.proofs.Common.{◌≡◌, ◌↔◌, ◌∙◌, ap, subst, List, map, Contains}
use Rattle.label_update.specs.Named.{named_fact}
use Rattle.label_update.specs.Names.{names_of}
use Rattle.label_update.specs.declared.named.NamedFact.{NamedFact}
use Rattle.label_update.specs.declared.names.AreaName.{AreaName}
use Rattle.label_update.proofs.named.named_facts.Goals as goal

pub returns : goal.returns
returns c =
    let facts = c.args.labelling.now in
    let same : c.in_ok-facts.facts.items ≡ map (named_fact (names_of c.args.portfolio.now)) facts =
    c.in_ok-facts.ensures ∙ ap (λ (names : List AreaName). map (named_fact names) facts) (c.items.ensures ∙ c.in_ok-names.ensures) in
    record {
      ordered = c.in_ok-named.ensures.ordered;
      same = subst (λ (all : List NamedFact). (f : NamedFact) → Contains c.in_ok-named.named.keys f ↔ Contains all f) same c.in_ok-named.ensures.same;
    }
