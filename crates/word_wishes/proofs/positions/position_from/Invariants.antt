use Rattle.std.proofs.Common.{◌≡◌, length}
use Rattle.word_wishes.specs.Positions as spec
use Rattle.word_wishes.proofs.positions.position_from.Given as goal

abbrev pub invariant-loop-rest : goal.invariant-loop-rest
invariant-loop-rest l = spec.first_from (spec.is_sought l.sought) l.position l.rest ≡ spec.position_from l.sought l.words l.at

abbrev pub decreases-loop-rest : goal.decreases-loop-rest
decreases-loop-rest l = length l.rest
