use Rattle.std.proofs.Common.{All}
use Rattle.year_labels.specs.declared.rule.RuleInst.{RuleInst}
use Rattle.year_labels.specs.Forms.{IsFit}
use Rattle.label_spread.proofs.tests.moves.Given as goal

abbrev pub invariant-loop-i : goal.invariant-loop-i
invariant-loop-i l = All (λ (r : RuleInst). IsFit r.form) l.rules.items
