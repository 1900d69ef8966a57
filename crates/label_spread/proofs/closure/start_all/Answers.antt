use Rattle.std.proofs.Common.{arith}
use Rattle.year_labels.specs.declared.rule.RuleInst.{RuleInst}
use Rattle.year_labels.specs.Forms.{Follows}
use Rattle.label_spread.proofs.Loops.{StartsOver-more, StartsOver-all}
use Rattle.label_spread.proofs.closure.start_all.Goals as goal

pub loop-rule-preserved : goal.loop-rule-preserved
loop-rule-preserved c =
    StartsOver-more (λ (r : RuleInst). Follows r.form) c.args.rules.now _ _ _ c.loop-rule.rule-index c.rule-item.result (omega arith) c.rule-item.is c.loop-rule.invariant c.in_ok-start.ensures

pub returns : goal.returns
returns c = StartsOver-all (λ (r : RuleInst). Follows r.form) c.args.rules.now _ _ c.loop-rule.rule-index (omega arith) c.loop-rule.invariant
