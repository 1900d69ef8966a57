use Rattle.std.proofs.Common.{◌≡◌, List}
use Rattle.year_labels.specs.declared.label.Seed.{Seed}
use Rattle.year_labels.specs.declared.label.Fact.{Fact}
use Rattle.label_spread.proofs.Loops.{AddsOver}
use Rattle.label_spread.proofs.closure.insert_seeds.Given as goal

abbrev pub invariant-loop-i : goal.invariant-loop-i
invariant-loop-i l = AddsOver (λ (s : Seed) (_ : List Fact) (f : Fact). f ≡ s.fact) l.seeds l.fn.known l.known l.i
