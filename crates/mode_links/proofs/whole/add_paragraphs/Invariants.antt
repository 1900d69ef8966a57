use Rattle.std.proofs.Common.{◌≡◌, ◌++◌, length}
use Rattle.mode_links.specs.Whole as spec
use Rattle.mode_links.proofs.whole.add_paragraphs.Given as goal

abbrev pub invariant-loop-rest : goal.invariant-loop-rest
invariant-loop-rest l =
    l.links ++ spec.paragraphs_links l.labelling l.layout l.words l.rest ≡ l.fn.links ++ spec.paragraphs_links l.labelling l.layout l.words l.paragraphs

abbrev pub decreases-loop-rest : goal.decreases-loop-rest
decreases-loop-rest l = length l.rest
