use Rattle.std.proofs.Common.{◌≡◌, ◌++◌, length}
use Rattle.statement_limits.specs.Limits as spec
use Rattle.statement_limits.proofs.limits.add_statement_limits.Given as goal

abbrev pub invariant-loop-rest : goal.invariant-loop-rest
invariant-loop-rest l =
    l.limits ++ spec.statement_limits l.programs l.layouts l.labelling l.index l.rest ≡ l.fn.limits ++ spec.statement_limits l.programs l.layouts l.labelling l.index l.uses

abbrev pub decreases-loop-rest : goal.decreases-loop-rest
decreases-loop-rest l = length l.rest
