use Rattle.std.proofs.Common.{◌≡◌, ◌++◌, drop}
use Rattle.statement_rules.specs.Statements as spec
use Rattle.statement_rules.proofs.statements.+statements.Given as goal

abbrev pub invariant-add_statements-loop-statement : goal.invariant-add_statements-loop-statement
invariant-add_statements-loop-statement l =
    l.rules ++ spec.statements_rules l.layout l.words (drop l.statement-index l.statement-items)
    ≡ l.initial.rules ++ spec.statements_rules l.layout l.words l.statement-items
