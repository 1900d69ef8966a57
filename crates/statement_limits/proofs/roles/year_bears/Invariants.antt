use Rattle.std.proofs.Common.{◌≡◌}
use Rattle.statement_limits.specs.Roles as spec
use Rattle.statement_limits.proofs.roles.year_bears.Given as goal

abbrev pub invariant-loop-index : goal.invariant-loop-index
invariant-loop-index l = l.any ≡ spec.year_bears l.labelling l.span l.digits l.unit l.index
