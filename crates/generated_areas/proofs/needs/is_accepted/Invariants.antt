use Rattle.std.proofs.Common.{◌≡◌, length}
use Rattle.std.specs.List.{list_any}
use Rattle.generated_areas.specs.Needs as spec
use Rattle.generated_areas.proofs.needs.is_accepted.Given as goal

abbrev pub invariant-loop-rest : goal.invariant-loop-rest
invariant-loop-rest l = list_any (spec.is_accepting l.index l.program l.unit) l.rest ≡ list_any (spec.is_accepting l.index l.program l.unit) l.uses

abbrev pub decreases-loop-rest : goal.decreases-loop-rest
decreases-loop-rest l = length l.rest
