use Rattle.std.proofs.Common.{◌≡◌, ◌++◌, length}
use Rattle.word_wishes.proofs.chosen.add_twins.Given as goal

abbrev pub invariant-loop-rest : goal.invariant-loop-rest
invariant-loop-rest l = l.edits ++ l.rest ≡ l.fn.edits ++ l.wishes

abbrev pub decreases-loop-rest : goal.decreases-loop-rest
decreases-loop-rest l = length l.rest
