use Rattle.std.proofs.Common.{◌≡◌, length}
use Rattle.statement_places.specs.Found as found
use Rattle.statement_places.proofs.places.place_in_sentences.Given as goal

abbrev pub invariant-loop-rest : goal.invariant-loop-rest
invariant-loop-rest l = found.in_sentences l.number l.rest ≡ found.in_sentences l.fn.number l.sentences

abbrev pub decreases-loop-rest : goal.decreases-loop-rest
decreases-loop-rest l = length l.rest
