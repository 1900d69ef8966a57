use Rattle.std.proofs.Common.{◌≡◌, ◌++◌, length}
use Rattle.word_wishes.specs.Whole as spec
use Rattle.word_wishes.proofs.whole.add_uses.Given as goal

abbrev pub invariant-loop-rest : goal.invariant-loop-rest
invariant-loop-rest l = l.wishes ++ spec.uses_wishes l.index l.portfolio l.rest ≡ l.fn.wishes ++ spec.uses_wishes l.index l.portfolio l.uses

abbrev pub decreases-loop-rest : goal.decreases-loop-rest
decreases-loop-rest l = length l.rest
