use Rattle.label_spread.specs.Steps.{IsFilledAt}
use Rattle.label_spread.proofs.Loops.{AddsBelow}
use Rattle.label_spread.proofs.roles.fill.Given as goal

abbrev pub invariant-loop-power : goal.invariant-loop-power
invariant-loop-power l = AddsBelow (IsFilledAt l.view l.from) l.fn.known l.known l.power
