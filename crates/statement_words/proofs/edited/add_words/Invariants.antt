use Rattle.std.proofs.Common.{◌≡◌, ◌++◌, length}
use Rattle.statement_words.proofs.edited.add_words.Given as goal

abbrev pub invariant-loop-rest : goal.invariant-loop-rest
invariant-loop-rest l = l.into ++ l.rest ≡ l.fn.into ++ l.words

abbrev pub decreases-loop-rest : goal.decreases-loop-rest
decreases-loop-rest l = length l.rest
