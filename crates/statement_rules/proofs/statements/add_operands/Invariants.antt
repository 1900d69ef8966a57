use Rattle.std.proofs.Common.{◌≡◌, ◌++◌, length}
use Rattle.statement_rules.specs.Statements as spec
use Rattle.statement_rules.proofs.statements.add_operands.Given as goal

abbrev pub invariant-loop-rest : goal.invariant-loop-rest
invariant-loop-rest l = l.rules ++ spec.all_operands l.layout l.at l.rest ≡ l.fn.rules ++ spec.all_operands l.layout l.at l.operands

abbrev pub decreases-loop-rest : goal.decreases-loop-rest
decreases-loop-rest l = length l.rest
