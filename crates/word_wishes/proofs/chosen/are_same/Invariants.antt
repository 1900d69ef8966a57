use Rattle.std.proofs.Common.{◌≡◌, length}
use Rattle.word_wishes.specs.Chosen as spec
use Rattle.word_wishes.proofs.chosen.are_same.Given as goal

abbrev pub invariant-loop-first_left : goal.invariant-loop-first_left
invariant-loop-first_left l = spec.are_same l.first_left l.second_left ≡ spec.are_same l.first l.second

abbrev pub decreases-loop-first_left : goal.decreases-loop-first_left
decreases-loop-first_left l = length l.first_left
