use Rattle.std.proofs.Common.{◌≡◌, ◌++◌, drop}
use Rattle.date_uses.specs.Statements as spec
use Rattle.date_uses.proofs.statements.+statements.Given as goal

abbrev pub invariant-add_statements-loop-statement : goal.invariant-add_statements-loop-statement
invariant-add_statements-loop-statement l =
    l.uses ++ spec.statements_uses l.labelling l.layout l.program l.words (drop l.statement-index l.statement-items)
    ≡ l.initial.uses ++ spec.statements_uses l.labelling l.layout l.program l.words l.statement-items
