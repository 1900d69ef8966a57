use Rattle.std.proofs.Common.{◌≡◌, ◌++◌, length}
use Rattle.literal_images.specs.Numbers as spec
use Rattle.literal_images.proofs.numbers.with_centuries.Given as goal

abbrev pub invariant-loop-rest : goal.invariant-loop-rest
invariant-loop-rest l = l.text ++ spec.with_centuries l.units l.rest ≡ spec.with_centuries l.units l.digits

abbrev pub decreases-loop-rest : goal.decreases-loop-rest
decreases-loop-rest l = length l.rest
