use Rattle.std.proofs.Common.{◌≤◌}
use Rattle.cobol_syntax.specs.declared.cond.CondForm.{size-CondForm}
use Rattle.cobol_syntax.proofs.cond.+condition_drop.Given as goal

abbrev pub invariant-CondForm::drop-loop-self : goal.invariant-CondForm::drop-loop-self
invariant-CondForm::drop-loop-self l = size-CondForm l.self ≤ size-CondForm l.fn.self
