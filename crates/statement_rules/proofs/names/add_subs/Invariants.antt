use Rattle.std.proofs.Common.{◌≡◌, ◌++◌, length}
use Rattle.statement_rules.specs.Names as spec
use Rattle.statement_rules.proofs.names.add_subs.Given as goal

abbrev pub invariant-loop-rest : goal.invariant-loop-rest
invariant-loop-rest l = l.rules ++ spec.subs_rules l.layout l.at l.rest ≡ l.fn.rules ++ spec.subs_rules l.layout l.at l.subs

abbrev pub decreases-loop-rest : goal.decreases-loop-rest
decreases-loop-rest l = length l.rest
