use Rattle.std.proofs.Common.{◌≡◌, length}
use Rattle.std.specs.List.{list_any}
use Rattle.generated_areas.specs.Needs as spec
use Rattle.generated_areas.proofs.needs.any_has_digits.Given as goal

abbrev pub invariant-loop-rest : goal.invariant-loop-rest
invariant-loop-rest l = list_any (spec.has_digits l.digits) l.rest ≡ list_any (spec.has_digits l.digits) l.moves

abbrev pub decreases-loop-rest : goal.decreases-loop-rest
decreases-loop-rest l = length l.rest
