use Rattle.std.proofs.Common.{◌≡◌, length}
use Rattle.literal_images.specs.Numbers as spec
use Rattle.literal_images.proofs.numbers.without_zeros.Given as goal

abbrev pub invariant-loop-rest : goal.invariant-loop-rest
invariant-loop-rest l = spec.without_zeros l.rest ≡ spec.without_zeros l.digits

abbrev pub decreases-loop-rest : goal.decreases-loop-rest
decreases-loop-rest l = length l.rest
