use Rattle.std.proofs.Common.{◌≡◌, ℕ, ◌<◌, List}
use Rattle.year_labels.specs.declared.label.Fact.{Fact}
use Rattle.year_labels.specs.Facts.{fact_in}
use Rattle.label_spread.specs.Steps.{label_on}
use Rattle.label_spread.proofs.Loops.{AddsBelow}
use Rattle.label_spread.proofs.packed.label_each.Given as goal

abbrev pub invariant-loop-k : goal.invariant-loop-k
invariant-loop-k l = AddsBelow (λ (k : ℕ) (_ : List Fact) (f : Fact). (k < l.span.length) × (f ≡ fact_in l.span k (label_on l.label k))) l.fn.known l.known l.k
