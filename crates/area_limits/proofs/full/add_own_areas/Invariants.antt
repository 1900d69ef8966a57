use Rattle.std.proofs.Common.{◌≡◌, ◌+◌, ◌++◌, map, length}
use Rattle.area_limits.specs.Extents as extents
use Rattle.area_limits.specs.Full as spec
use Rattle.area_limits.proofs.full.add_own_areas.Given as goal

abbrev pub invariant-loop-rest : goal.invariant-loop-rest
invariant-loop-rest l =
    (l.sum + spec.lengths (map (extents.area_extent l.index l.words l.items) l.rest) ≡ l.before + spec.lengths (map (extents.area_extent l.index l.words l.items) l.areas))
    × (l.limits ++ spec.full_limits l.sum (map (extents.area_extent l.index l.words l.items) l.rest) ≡ l.fn.limits ++ spec.full_limits l.before (map (extents.area_extent l.index l.words l.items) l.areas))

abbrev pub decreases-loop-rest : goal.decreases-loop-rest
decreases-loop-rest l = length l.rest
