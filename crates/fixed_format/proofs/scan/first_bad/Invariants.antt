use Rattle.std.proofs.Common.{◌≡◌, length}
use Rattle.fixed_format.specs.Scanning.{first_bad}
use Rattle.fixed_format.proofs.scan.first_bad.Given as goal

abbrev pub invariant-loop-rest : goal.invariant-loop-rest
invariant-loop-rest l = first_bad l.fault l.sort l.rest ≡ first_bad l.fn.known l.sort l.chars

abbrev pub decreases-loop-rest : goal.decreases-loop-rest
decreases-loop-rest l = length l.rest
