use Rattle.std.proofs.Common.{◌≡◌, ◌++◌, length}
use Rattle.date_types.specs.Programs as spec
use Rattle.date_types.proofs.programs.add_sentences.Given as goal

abbrev pub invariant-loop-rest : goal.invariant-loop-rest
invariant-loop-rest l = l.rules ++ spec.sentences_rules l.layout l.words l.rest ≡ l.fn.rules ++ spec.sentences_rules l.layout l.words l.sentences

abbrev pub decreases-loop-rest : goal.decreases-loop-rest
decreases-loop-rest l = length l.rest
