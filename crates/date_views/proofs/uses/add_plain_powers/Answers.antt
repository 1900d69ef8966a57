use Rattle.std.proofs.Common.{◌≡◌, ℕ, ◌-◌, ◌++◌, ◌∙◌, ap, List, arith}
use Rattle.year_labels.specs.declared.rule.RuleInst.{RuleInst}
use Rattle.date_views.specs.Uses as spec
use Rattle.date_views.proofs.uses.add_plain_powers.Goals as goal

pub returns : goal.returns
returns c =
    let end : c.loop-power.power - c.args.low ≡ c.args.high - c.args.low = omega (arith, c.loop-power-test.false, c.loop-power.auto.power, c.loop-power.auto.power-end c.requires) in
    c.loop-power.invariant ∙ ap (λ (n : ℕ). c.args.rules.now ++ spec.plain_powers c.args.at c.args.view.now c.args.low n) end
