use Rattle.std.proofs.Common.{◌≡◌}
use Rattle.statement_limits.specs.Roles as spec
use Rattle.statement_limits.proofs.roles.plain_bears.Given as goal

abbrev pub invariant-loop-index : goal.invariant-loop-index
invariant-loop-index l = l.any ≡ spec.plain_bears l.labelling l.span l.index
