use Rattle.std.proofs.Common.{◌≡◌, ◌+◌, ◌++◌, map, length}
use Rattle.area_limits.specs.Extents as extents
use Rattle.area_limits.specs.Full as spec
use Rattle.area_limits.proofs.full.add_generated_areas.Given as goal

abbrev pub invariant-loop-rest : goal.invariant-loop-rest
invariant-loop-rest l =
    (l.sum + spec.lengths (map (extents.generated_extent l.at) l.rest) ≡ l.before + spec.lengths (map (extents.generated_extent l.at) l.areas))
    × (l.limits ++ spec.full_limits l.sum (map (extents.generated_extent l.at) l.rest) ≡ l.fn.limits ++ spec.full_limits l.before (map (extents.generated_extent l.at) l.areas))

abbrev pub decreases-loop-rest : goal.decreases-loop-rest
decreases-loop-rest l = length l.rest
