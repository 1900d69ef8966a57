use Rattle.std.proofs.Common.{◌≡◌, ◌++◌, length}
use Rattle.literal_images.specs.Numbers as spec
use Rattle.literal_images.proofs.numbers.units.Given as goal

abbrev pub invariant-loop-rest : goal.invariant-loop-rest
invariant-loop-rest l = l.units ++ spec.units l.view l.rest ≡ spec.units l.view l.modes

abbrev pub decreases-loop-rest : goal.decreases-loop-rest
decreases-loop-rest l = length l.rest
