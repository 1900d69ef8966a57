use Rattle.std.proofs.Common.{◌≡◌, ◌++◌, length}
use Rattle.mode_links.specs.Whole as spec
use Rattle.mode_links.proofs.whole.links_among.Given as goal

abbrev pub invariant-loop-rest : goal.invariant-loop-rest
invariant-loop-rest l = l.links ++ spec.links_among l.rest ≡ spec.links_among l.rules

abbrev pub decreases-loop-rest : goal.decreases-loop-rest
decreases-loop-rest l = length l.rest
