use Rattle.std.proofs.Common.{◌≡◌, ◌+◌, length}
use Rattle.word_wishes.specs.Grown as spec
use Rattle.word_wishes.proofs.grown.growths.Given as goal

abbrev pub invariant-loop-rest : goal.invariant-loop-rest
invariant-loop-rest l = l.sum + spec.growths l.rest ≡ spec.growths l.modes

abbrev pub decreases-loop-rest : goal.decreases-loop-rest
decreases-loop-rest l = length l.rest
