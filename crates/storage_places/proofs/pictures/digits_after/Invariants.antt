use Rattle.std.proofs.Common.{◌≡◌, length}
use Rattle.number_bytes.specs.Stored.{symbols}
use Rattle.program_meaning.specs.Kind.{digits_after}
use Rattle.storage_places.proofs.pictures.digits_after.Given as goal

abbrev pub invariant-loop-rest : goal.invariant-loop-rest
invariant-loop-rest l = digits_after (symbols l.fn.picture) ≡ digits_after (symbols l.rest)

abbrev pub decreases-loop-rest : goal.decreases-loop-rest
decreases-loop-rest l = length l.rest
