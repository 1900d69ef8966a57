use Rattle.std.proofs.Common.{◌≡◌, ◌++◌, map, length}
use Rattle.statement_places.specs.Parts.{seen, of_sentences}
use Rattle.statement_places.proofs.parts.add_sentences.Given as goal

abbrev pub invariant-loop-rest : goal.invariant-loop-rest
invariant-loop-rest l = map seen l.parts.items ++ of_sentences l.rest ≡ map seen l.fn.parts.items ++ of_sentences l.sentences

abbrev pub decreases-loop-rest : goal.decreases-loop-rest
decreases-loop-rest l = length l.rest
