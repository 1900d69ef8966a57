use Rattle.std.proofs.Common.{◌≡◌, ◌++◌, length}
use Rattle.date_uses.specs.Uses as spec
use Rattle.date_uses.proofs.whole.add_sentences.Given as goal

abbrev pub invariant-loop-rest : goal.invariant-loop-rest
invariant-loop-rest l =
    l.uses ++ spec.sentences_uses l.labelling l.layout l.program l.words l.rest
    ≡ l.fn.uses ++ spec.sentences_uses l.labelling l.layout l.program l.words l.sentences

abbrev pub decreases-loop-rest : goal.decreases-loop-rest
decreases-loop-rest l = length l.rest
