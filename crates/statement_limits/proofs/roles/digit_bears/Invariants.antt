use Rattle.std.proofs.Common.{◌≡◌, length}
use Rattle.statement_limits.specs.Roles as spec
use Rattle.statement_limits.proofs.roles.digit_bears.Given as goal

abbrev pub invariant-loop-rest : goal.invariant-loop-rest
invariant-loop-rest l =
    spec.digit_bears l.labelling l.span l.label l.power l.index l.rest ≡ spec.digit_bears l.labelling l.span l.label l.power 0 l.powers

abbrev pub decreases-loop-rest : goal.decreases-loop-rest
decreases-loop-rest l = length l.rest
