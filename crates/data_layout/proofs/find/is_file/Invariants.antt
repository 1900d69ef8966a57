use Rattle.std.proofs.Common.{◌≡◌, length}
use Rattle.data_layout.specs.Find as spec
use Rattle.data_layout.proofs.find.is_file.Given as goal

abbrev pub invariant-loop-rest : goal.invariant-loop-rest
invariant-loop-rest l = spec.is_file l.rest l.id l.name ≡ spec.is_file l.areas l.id l.name

abbrev pub decreases-loop-rest : goal.decreases-loop-rest
decreases-loop-rest l = length l.rest
