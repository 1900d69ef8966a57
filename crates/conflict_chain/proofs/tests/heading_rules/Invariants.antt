use Rattle.std.proofs.Common.{All}
use Rattle.year_labels.specs.declared.rule.RuleInst.{RuleInst}
use Rattle.year_labels.specs.Forms.{IsFit}
use Rattle.conflict_chain.proofs.tests.heading_rules.Given as goal

abbrev pub invariant-loop-report : goal.invariant-loop-report
invariant-loop-report l = All (λ (r : RuleInst). IsFit r.form) l.rules.items
