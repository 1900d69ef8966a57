use Rattle.std.proofs.Common.{subst}
use Rattle.std.specs.declared.cmp.Ordering.{Ordering}
use Rattle.std.specs.List.Sorted.{IsBinarySearchResult}
use Rattle.year_labels.specs.declared.label.Fact.{Fact}
use Rattle.year_labels.proofs.Total.{same_cmp}
use Rattle.year_labels.proofs.order.search.Goals as goal

pub returns-clause-place : goal.returns-clause-place
returns-clause-place c =
    subst (λ (o : Fact → Ordering). IsBinarySearchResult o c.args.facts.now c.binary_search.result) (λ i y. same_cmp y c.args.fact i) c.binary_search.ensures.position
