use Rattle.std.proofs.Common.{◌≡◌, ◌++◌, length}
use Rattle.byte_lists.specs.HalfBytes as spec
use Rattle.literal_images.proofs.packed.halves.Given as goal

abbrev pub invariant-loop-rest : goal.invariant-loop-rest
invariant-loop-rest l = l.text ++ spec.halves l.rest ≡ spec.halves l.bytes

abbrev pub decreases-loop-rest : goal.decreases-loop-rest
decreases-loop-rest l = length l.rest
