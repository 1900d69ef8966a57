use Rattle.std.proofs.Common.{arith}
use Rattle.year_labels.specs.declared.label.Role.TheVariants as roles
use Rattle.label_spread.specs.Steps.{IsFilledAt}
use Rattle.label_spread.proofs.Loops.{AddsBelow-more, AddsBelow-all}
use Rattle.label_spread.proofs.Local.{IsFilledAt-monotone}
use Rattle.label_spread.proofs.roles.fill.Goals as goal

pub loop-power-preserved : goal.loop-power-preserved
loop-power-preserved c =
    AddsBelow-more (IsFilledAt c.args.view.now c.args.from) _ _ _ c.loop-power.power (IsFilledAt-monotone c.args.view.now c.args.from c.loop-power.power c.requires) c.loop-power.invariant c.in_ok-fill_power.ensures

pub returns : goal.returns
returns c =
    AddsBelow-all (IsFilledAt c.args.view.now c.args.from) _ _ _ c.loop-power.power
    (λ k ys f h. (k, h.0.0, h.0.1, h.1))
    (λ f h. (h.0, omega (arith, c.power_limit-limit.ensures.above _ h.0 roles.Plain f h.3), ((h.1, h.2), h.3))) c.loop-power.invariant
