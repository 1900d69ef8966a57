use Rattle.std.proofs.Common.{◌≡◌, length}
use Rattle.reports.specs.Items as spec
use Rattle.reports.proofs.items.first_picture.Given as goal

abbrev pub invariant-loop-rest : goal.invariant-loop-rest
invariant-loop-rest l = spec.first_picture l.rest ≡ spec.first_picture l.fn.words

abbrev pub decreases-loop-rest : goal.decreases-loop-rest
decreases-loop-rest l = length l.rest
