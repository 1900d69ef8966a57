use Rattle.std.proofs.Common.{◌≡◌, ℕ, List, Some, arith}
use Rattle.std.proofs.lemmas.Option.{slice_get_within}
use Rattle.year_labels.specs.declared.label.Fact.{Fact}
use Rattle.year_labels.specs.Facts.{fact_in}
use Rattle.year_labels.specs.Roles.{HoldsPower}
use Rattle.label_spread.proofs.Loops.{AddsBelow-more, AddsBelow-all}
use Rattle.label_spread.proofs.bytes.label_bytes.Goals as goal

pub loop-i-preserved : goal.loop-i-preserved
loop-i-preserved c =
    AddsBelow-more (λ (k : ℕ) (_ : List Fact) (f : Fact). HoldsPower c.args.powers.now k c.args.power × (f ≡ fact_in c.args.span k c.args.label)) _ _ _ c.loop-i.i (λ xs ys f grows h. h) c.loop-i.invariant c.in_ok-label_byte.ensures

pub returns : goal.returns
returns c =
    AddsBelow-all (λ (k : ℕ) (_ : List Fact) (f : Fact). HoldsPower c.args.powers.now k c.args.power × (f ≡ fact_in c.args.span k c.args.label)) _ _ _ c.loop-i.i
    (λ k ys f h. (k, h.0, h.1))
    (λ f h. (h.0, omega (arith, slice_get_within c.args.powers.now h.0 (Some c.args.power) h.1), (h.1, h.2))) c.loop-i.invariant
