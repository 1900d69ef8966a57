use Rattle.std.proofs.Common.{◌≡◌, ℕ, List}
use Rattle.year_labels.specs.declared.label.Fact.{Fact}
use Rattle.year_labels.specs.Facts.{fact_in}
use Rattle.year_labels.specs.Roles.{HoldsPower}
use Rattle.label_spread.proofs.Loops.{AddsBelow}
use Rattle.label_spread.proofs.bytes.label_bytes.Given as goal

abbrev pub invariant-loop-i : goal.invariant-loop-i
invariant-loop-i l = AddsBelow (λ (k : ℕ) (_ : List Fact) (f : Fact). HoldsPower l.powers k l.power × (f ≡ fact_in l.span k l.label)) l.fn.known l.known l.i
