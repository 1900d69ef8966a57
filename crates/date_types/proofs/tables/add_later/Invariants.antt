use Rattle.std.proofs.Common.{◌≡◌, ◌++◌, length}
use Rattle.date_types.specs.Tables as spec
use Rattle.date_types.proofs.tables.add_later.Given as goal

abbrev pub invariant-loop-rest : goal.invariant-loop-rest
invariant-loop-rest l = l.rules ++ spec.later_rules l.portfolio l.bytes l.first l.rest ≡ l.fn.rules ++ spec.later_rules l.portfolio l.bytes l.first l.uses

abbrev pub decreases-loop-rest : goal.decreases-loop-rest
decreases-loop-rest l = length l.rest
