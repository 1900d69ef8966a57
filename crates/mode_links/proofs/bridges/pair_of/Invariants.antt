use Rattle.std.proofs.Common.{◌≡◌, length}
use Rattle.mode_links.specs.Bridges as spec
use Rattle.mode_links.proofs.bridges.pair_of.Given as goal

abbrev pub invariant-loop-rest : goal.invariant-loop-rest
invariant-loop-rest l = spec.pair_from l.high l.low l.span l.index l.rest ≡ spec.pair_from l.high l.low l.span 0 l.powers

abbrev pub decreases-loop-rest : goal.decreases-loop-rest
decreases-loop-rest l = length l.rest
