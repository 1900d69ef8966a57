use Rattle.label_spread.specs.Steps.{IsPassedAt}
use Rattle.label_spread.proofs.Loops.{AddsBelow}
use Rattle.label_spread.proofs.roles.pass_roles.Given as goal

abbrev pub invariant-loop-power : goal.invariant-loop-power
invariant-loop-power l = AddsBelow (IsPassedAt l.from l.to) l.fn.known l.known l.power
