use Rattle.std.proofs.Common.{◌≡◌, length}
use Rattle.fixed_format.specs.Scanning.{are_run}
use Rattle.fixed_format.proofs.scan.are_run.Given as goal

abbrev pub invariant-loop-rest : goal.invariant-loop-rest
invariant-loop-rest l = are_run l.rest ≡ are_run l.chars

abbrev pub decreases-loop-rest : goal.decreases-loop-rest
decreases-loop-rest l = length l.rest
