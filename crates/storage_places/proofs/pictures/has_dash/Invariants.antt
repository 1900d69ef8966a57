use Rattle.std.proofs.Common.{◌≡◌, length}
use Rattle.number_bytes.specs.Stored.{symbols}
use Rattle.program_meaning.specs.Kind.{has_dash}
use Rattle.storage_places.proofs.pictures.has_dash.Given as goal

abbrev pub invariant-loop-rest : goal.invariant-loop-rest
invariant-loop-rest l = has_dash (symbols l.fn.picture) ≡ has_dash (symbols l.rest)

abbrev pub decreases-loop-rest : goal.decreases-loop-rest
decreases-loop-rest l = length l.rest
