use Rattle.std.proofs.Common.{◌≡◌, length}
use Rattle.statement_rules.specs.Statements as spec
use Rattle.statement_rules.proofs.statements.file_side.Given as goal

abbrev pub invariant-loop-rest : goal.invariant-loop-rest
invariant-loop-rest l = spec.file_side l.rest l.name ≡ spec.file_side l.areas l.name

abbrev pub decreases-loop-rest : goal.decreases-loop-rest
decreases-loop-rest l = length l.rest
