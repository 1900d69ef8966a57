use Rattle.std.proofs.Common.{◌≡◌, ◌+◌, length}
use Rattle.number_bytes.specs.Stored.{symbols}
use Rattle.program_meaning.specs.Kind.{digits_shown}
use Rattle.storage_places.proofs.pictures.digits_shown.Given as goal

abbrev pub invariant-loop-rest : goal.invariant-loop-rest
invariant-loop-rest l = digits_shown (symbols l.fn.picture) ≡ l.digits + digits_shown (symbols l.rest)

abbrev pub decreases-loop-rest : goal.decreases-loop-rest
decreases-loop-rest l = length l.rest
