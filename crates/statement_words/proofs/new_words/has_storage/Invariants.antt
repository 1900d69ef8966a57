use Rattle.std.proofs.Common.{◌≡◌, length}
use Rattle.statement_words.specs.NewWords.{has_storage}
use Rattle.statement_words.proofs.new_words.has_storage.Given as goal

abbrev pub invariant-loop-rest : goal.invariant-loop-rest
invariant-loop-rest l = has_storage l.rest ≡ has_storage l.words

abbrev pub decreases-loop-rest : goal.decreases-loop-rest
decreases-loop-rest l = length l.rest
