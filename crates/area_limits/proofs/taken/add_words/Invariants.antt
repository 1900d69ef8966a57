use Rattle.std.proofs.Common.{◌≡◌, ◌++◌, length}
use Rattle.area_limits.specs.Taken as spec
use Rattle.area_limits.proofs.taken.add_words.Given as goal

abbrev pub invariant-loop-rest : goal.invariant-loop-rest
invariant-loop-rest l = l.limits ++ spec.words_limits l.rest ≡ l.fn.limits ++ spec.words_limits l.words

abbrev pub decreases-loop-rest : goal.decreases-loop-rest
decreases-loop-rest l = length l.rest
