use Rattle.std.proofs.Common.{◌≡◌, ◌++◌, length}
use Rattle.byte_lists.specs.HalfBytes as spec
use Rattle.literal_images.proofs.packed.joined.Given as goal

abbrev pub invariant-loop-rest : goal.invariant-loop-rest
invariant-loop-rest l = l.text ++ spec.joined l.rest ≡ spec.joined l.halves

abbrev pub decreases-loop-rest : goal.decreases-loop-rest
decreases-loop-rest l = length l.rest
