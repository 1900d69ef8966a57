use Rattle.std.proofs.Common.{◌≡◌, length}
use Rattle.portfolio.specs.Keys.{is_word_of}
use Rattle.portfolio.proofs.key.is_word_of.Given as goal

abbrev pub invariant-loop-rest : goal.invariant-loop-rest
invariant-loop-rest l = is_word_of l.rest l.text ≡ is_word_of l.keys l.text

abbrev pub decreases-loop-rest : goal.decreases-loop-rest
decreases-loop-rest l = length l.rest
