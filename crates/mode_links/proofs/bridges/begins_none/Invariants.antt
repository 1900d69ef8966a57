use Rattle.std.proofs.Common.{◌≡◌}
use Rattle.mode_links.specs.Bridges as spec
use Rattle.mode_links.proofs.bridges.begins_none.Given as goal

abbrev pub invariant-loop-index : goal.invariant-loop-index
invariant-loop-index l = l.none ≡ spec.begins_none l.labelling l.span l.index
