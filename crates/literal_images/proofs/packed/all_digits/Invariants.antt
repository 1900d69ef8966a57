use Rattle.std.proofs.Common.{◌≡◌, length}
use Rattle.byte_lists.specs.Digit as spec
use Rattle.literal_images.proofs.packed.all_digits.Given as goal

abbrev pub invariant-loop-rest : goal.invariant-loop-rest
invariant-loop-rest l = spec.all_digits 0 l.rest ≡ spec.all_digits 0 l.halves

abbrev pub decreases-loop-rest : goal.decreases-loop-rest
decreases-loop-rest l = length l.rest
