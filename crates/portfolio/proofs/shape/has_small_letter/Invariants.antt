use Rattle.std.proofs.Common.{◌≡◌, length}
use Rattle.portfolio.specs.Values.{has_small_letter}
use Rattle.portfolio.proofs.shape.has_small_letter.Given as goal

abbrev pub invariant-loop-rest : goal.invariant-loop-rest
invariant-loop-rest l = has_small_letter l.rest ≡ has_small_letter l.key

abbrev pub decreases-loop-rest : goal.decreases-loop-rest
decreases-loop-rest l = length l.rest
