use Rattle.std.proofs.Common.{◌≡◌, ◌++◌, length}
use Rattle.source_edit.proofs.row.add_words.Given as goal

abbrev pub invariant-loop-rest : goal.invariant-loop-rest
invariant-loop-rest l = l.into ++ l.rest ≡ l.initial.into ++ l.words

abbrev pub decreases-loop-rest : goal.decreases-loop-rest
decreases-loop-rest l = length l.rest
