use Rattle.std.proofs.Common.{◌≡◌, length}
use Rattle.literal_images.specs.Images as spec
use Rattle.literal_images.proofs.image.has_control.Given as goal

abbrev pub invariant-loop-rest : goal.invariant-loop-rest
invariant-loop-rest l = spec.has_control l.rest ≡ spec.has_control l.bytes

abbrev pub decreases-loop-rest : goal.decreases-loop-rest
decreases-loop-rest l = length l.rest
