use Rattle.std.proofs.Common.{◌≡◌, length}
use Rattle.year_image.specs.Packing as spec
use Rattle.literal_images.proofs.packed.all_equal.Given as goal

abbrev pub invariant-loop-rest : goal.invariant-loop-rest
invariant-loop-rest l = spec.all_equal l.byte l.rest ≡ spec.all_equal l.byte l.bytes

abbrev pub decreases-loop-rest : goal.decreases-loop-rest
decreases-loop-rest l = length l.rest
