use Rattle.std.proofs.Common.{arith}
use Rattle.label_spread.specs.Steps.{IsPassedAt}
use Rattle.label_spread.proofs.Loops.{AddsBelow-more, AddsBelow-all}
use Rattle.label_spread.proofs.Local.{IsPassedAt-monotone}
use Rattle.label_spread.proofs.roles.pass_roles.Goals as goal

pub loop-power-preserved : goal.loop-power-preserved
loop-power-preserved c =
    AddsBelow-more (IsPassedAt c.args.from.now c.args.to.now) _ _ _ c.loop-power.power (IsPassedAt-monotone c.args.from.now c.args.to.now c.loop-power.power c.requires.from) c.loop-power.invariant c.in_ok-pass_power.ensures

pub returns : goal.returns
returns c =
    AddsBelow-all (IsPassedAt c.args.from.now c.args.to.now) _ _ _ c.loop-power.power
    (λ k ys f h. (k, h.0, h.1.0, h.1.1))
    (λ f h. (h.0, omega (arith, c.power_limit-limit.ensures.above _ h.0 h.1 f h.3), (h.1, (h.2, h.3)))) c.loop-power.invariant
