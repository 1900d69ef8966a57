use Rattle.std.proofs.Common.{◌≡◌, ◌++◌}
use Rattle.generated_areas.specs.Needs as spec
use Rattle.generated_areas.proofs.needs.add_areas_below.Given as goal

abbrev pub invariant-loop-digits : goal.invariant-loop-digits
invariant-loop-digits l = l.areas ≡ l.fn.areas ++ spec.areas_below l.moves l.digits
