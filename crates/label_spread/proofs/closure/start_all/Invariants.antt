use Rattle.year_labels.specs.declared.rule.RuleInst.{RuleInst}
use Rattle.year_labels.specs.Forms.{Follows}
use Rattle.label_spread.proofs.Loops.{StartsOver}
use Rattle.label_spread.proofs.closure.start_all.Given as goal

abbrev pub invariant-loop-rule : goal.invariant-loop-rule
invariant-loop-rule l = StartsOver (λ (r : RuleInst). Follows r.form) l.rules l.fn.known l.known l.rule-index
