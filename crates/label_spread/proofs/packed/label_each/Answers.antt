use Rattle.std.proofs.Common.{◌≡◌, ℕ, ◌<◌, List, arith}
use Rattle.year_labels.specs.declared.label.Fact.{Fact}
use Rattle.year_labels.specs.Facts.{fact_in}
use Rattle.label_spread.specs.Steps.{label_on}
use Rattle.label_spread.proofs.Growth.{Adds-alike}
use Rattle.label_spread.proofs.Loops.{AddsBelow-more, AddsBelow-all}
use Rattle.label_spread.proofs.packed.label_each.Goals as goal

pub loop-k-preserved : goal.loop-k-preserved
loop-k-preserved c =
    let span = c.args.span in
    let label = c.args.label in
    let at : ℕ = c.loop-k.k in
    let low : at < span.length = omega arith in
    AddsBelow-more (λ (k : ℕ) (_ : List Fact) (f : Fact). (k < span.length) × (f ≡ fact_in span k (label_on label k))) _ _ _ at (λ xs ys f grows h. h) c.loop-k.invariant
    (Adds-alike (λ (_ : List Fact) (f : Fact). f ≡ fact_in span at (label_on label at)) (λ (_ : List Fact) (f : Fact). (at < span.length) × (f ≡ fact_in span at (label_on label at))) _ _
    (λ xs f known h. (low, h)) (λ f h. h.1) c.in_ok-label_one.ensures)

pub returns : goal.returns
returns c =
    AddsBelow-all (λ (k : ℕ) (_ : List Fact) (f : Fact). (k < c.args.span.length) × (f ≡ fact_in c.args.span k (label_on c.args.label k))) _ _ _ c.loop-k.k
    (λ k ys f h. (k, h.0, h.1))
    (λ f h. (h.0, omega (arith, h.1), (h.1, h.2))) c.loop-k.invariant
