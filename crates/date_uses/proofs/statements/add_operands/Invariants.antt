use Rattle.std.proofs.Common.{◌≡◌, ◌++◌, length}
use Rattle.date_uses.specs.Statements as spec
use Rattle.date_uses.proofs.statements.add_operands.Given as goal

abbrev pub invariant-loop-rest : goal.invariant-loop-rest
invariant-loop-rest l = l.uses ++ spec.operands_mentions l.layout l.spot l.rest ≡ l.fn.uses ++ spec.operands_mentions l.layout l.spot l.operands

abbrev pub decreases-loop-rest : goal.decreases-loop-rest
decreases-loop-rest l = length l.rest
