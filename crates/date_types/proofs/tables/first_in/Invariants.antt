use Rattle.std.proofs.Common.{◌≡◌, length}
use Rattle.date_types.specs.Tables as spec
use Rattle.date_types.proofs.tables.first_in.Given as goal

abbrev pub invariant-loop-rest : goal.invariant-loop-rest
invariant-loop-rest l = spec.first_in l.area l.rest ≡ spec.first_in l.area l.items

abbrev pub decreases-loop-rest : goal.decreases-loop-rest
decreases-loop-rest l = length l.rest
