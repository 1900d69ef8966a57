use Rattle.std.proofs.Common.{◌≡◌, length}
use Rattle.std.specs.List.{find}
use Rattle.area_limits.specs.Extents as spec
use Rattle.area_limits.proofs.extents.record_origin.Given as goal

abbrev pub invariant-loop-rest : goal.invariant-loop-rest
invariant-loop-rest l =
    spec.item_origin l.words (find (spec.is_record l.index l.area l.length) l.rest) ≡ spec.item_origin l.words (find (spec.is_record l.index l.area l.length) l.items)

abbrev pub decreases-loop-rest : goal.decreases-loop-rest
decreases-loop-rest l = length l.rest
