use Rattle.std.proofs.Common.{◌≡◌, false, length}
use Rattle.std.proofs.Common.{[]}
use Rattle.fixed_format.specs.Loops.{content_from}
use Rattle.fixed_format.proofs.scan.content_by_halves.Given as goal

abbrev pub invariant-loop-rest : goal.invariant-loop-rest
invariant-loop-rest l = content_from l.mark l.is_half l.text l.rest ≡ content_from l.mark false [] l.chars

abbrev pub decreases-loop-rest : goal.decreases-loop-rest
decreases-loop-rest l = length l.rest
