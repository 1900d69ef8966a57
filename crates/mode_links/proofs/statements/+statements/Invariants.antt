use Rattle.std.proofs.Common.{◌≡◌, ◌++◌, drop}
use Rattle.mode_links.specs.Statements as spec
use Rattle.mode_links.proofs.statements.+statements.Given as goal

abbrev pub invariant-add_statements-loop-statement : goal.invariant-add_statements-loop-statement
invariant-add_statements-loop-statement l =
    l.links ++ spec.statements_links l.labelling l.layout l.words (drop l.statement-index l.statement-items)
    ≡ l.initial.links ++ spec.statements_links l.labelling l.layout l.words l.statement-items
