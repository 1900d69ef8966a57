use Rattle.std.proofs.Common.{◌≡◌, length}
use Rattle.literal_images.specs.Numbers as spec
use Rattle.literal_images.proofs.numbers.is_tens.Given as goal

abbrev pub invariant-loop-rest : goal.invariant-loop-rest
invariant-loop-rest l = spec.is_tens l.rest l.power ≡ spec.is_tens l.units l.power

abbrev pub decreases-loop-rest : goal.decreases-loop-rest
decreases-loop-rest l = length l.rest
