use Rattle.std.proofs.Common.{◌≡◌, length}
use Rattle.mode_links.specs.Bridges as spec
use Rattle.mode_links.proofs.bridges.has_name.Given as goal

abbrev pub invariant-loop-rest : goal.invariant-loop-rest
invariant-loop-rest l = spec.has_name l.rest ≡ spec.has_name l.subs

abbrev pub decreases-loop-rest : goal.decreases-loop-rest
decreases-loop-rest l = length l.rest
