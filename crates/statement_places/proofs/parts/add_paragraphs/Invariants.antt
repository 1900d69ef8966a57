use Rattle.std.proofs.Common.{◌≡◌, ◌++◌, map, length}
use Rattle.statement_places.specs.Parts.{seen, of_paragraphs}
use Rattle.statement_places.proofs.parts.add_paragraphs.Given as goal

abbrev pub invariant-loop-rest : goal.invariant-loop-rest
invariant-loop-rest l = map seen l.parts.items ++ of_paragraphs l.rest ≡ map seen l.fn.parts.items ++ of_paragraphs l.paragraphs

abbrev pub decreases-loop-rest : goal.decreases-loop-rest
decreases-loop-rest l = length l.rest
