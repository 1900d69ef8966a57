use Rattle.std.proofs.Common.{◌≡◌, ◌++◌, [], length}
use Rattle.word_wishes.specs.Walk as spec
use Rattle.word_wishes.proofs.chosen.edits_from.Given as goal

abbrev pub invariant-loop-rest : goal.invariant-loop-rest
invariant-loop-rest l = l.edits ++ spec.edits_from l.programs l.seen l.rest ≡ spec.edits_from l.programs [] l.wishes

abbrev pub decreases-loop-rest : goal.decreases-loop-rest
decreases-loop-rest l = length l.rest
