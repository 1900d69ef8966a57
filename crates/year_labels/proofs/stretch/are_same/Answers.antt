use Rattle.std.proofs.Common.{arith, refl}
use Rattle.std.proofs.lemmas.List.{ext_get_or}
use Rattle.year_labels.specs.declared.label.Label.TheVariants.{Tens}
use Rattle.year_labels.proofs.stretch.are_same.Goals as goal

pub returns : goal.returns
returns c = (λ _. ext_get_or Tens c.args.first.now c.args.second.now (omega arith) (λ k low. c.loop-i.invariant k Tens (omega arith)), λ _. refl)
