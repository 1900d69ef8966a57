use Rattle.std.proofs.Common.{◌≡◌, ◌++◌, length}
use Rattle.statement_words.specs.NewWords.{text_words}
use Rattle.statement_words.proofs.Spelled.{words_from}
use Rattle.statement_words.proofs.new_words.add_text.Given as goal

abbrev pub invariant-loop-rest : goal.invariant-loop-rest
invariant-loop-rest l = l.into ++ words_from l.at l.begun l.rest ≡ l.fn.into ++ text_words l.at l.text

abbrev pub decreases-loop-rest : goal.decreases-loop-rest
decreases-loop-rest l = length l.rest
