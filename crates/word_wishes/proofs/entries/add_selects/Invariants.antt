use Rattle.std.proofs.Common.{◌≡◌, ◌++◌, length}
use Rattle.word_wishes.specs.Entries as spec
use Rattle.word_wishes.proofs.entries.add_selects.Given as goal

abbrev pub invariant-loop-rest : goal.invariant-loop-rest
invariant-loop-rest l = l.wishes ++ spec.selects_wishes l.index l.source.number l.source.words.now l.layout l.rest ≡ l.fn.wishes ++ spec.selects_wishes l.index l.source.number l.source.words.now l.layout l.selects

abbrev pub decreases-loop-rest : goal.decreases-loop-rest
decreases-loop-rest l = length l.rest
