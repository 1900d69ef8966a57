use Rattle.std.proofs.Common.{◌≡◌, length}
use Rattle.std.specs.List.{find}
use Rattle.portfolio.specs.Faults.{has_bad_name}
use Rattle.portfolio.proofs.read.first_bad_name.Given as goal

abbrev pub invariant-loop-rest : goal.invariant-loop-rest
invariant-loop-rest l = find (has_bad_name l.manifest) l.rest ≡ find (has_bad_name l.manifest) l.keys

abbrev pub decreases-loop-rest : goal.decreases-loop-rest
decreases-loop-rest l = length l.rest
