use Rattle.std.proofs.Common.{◌≡◌, length}
use Rattle.source_edit.specs.Expansions.{with_texts, sources_of}
use Rattle.source_edit.proofs.expansion.sources_of.Given as goal

abbrev pub invariant-loop-rest : goal.invariant-loop-rest
invariant-loop-rest l = with_texts l.sources l.number l.rest ≡ sources_of l.texts

abbrev pub decreases-loop-rest : goal.decreases-loop-rest
decreases-loop-rest l = length l.rest
