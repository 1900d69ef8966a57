use Rattle.std.proofs.Common.{◌≡◌}
use Rattle.mode_links.specs.Bridges as spec
use Rattle.mode_links.proofs.bridges.stands.Given as goal

abbrev pub invariant-loop-index : goal.invariant-loop-index
invariant-loop-index l = l.all ≡ spec.bears_first l.labelling l.year l.index
