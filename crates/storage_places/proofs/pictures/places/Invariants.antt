use Rattle.std.proofs.Common.{◌≡◌, ◌+◌, length}
use Rattle.number_bytes.specs.Stored.{symbols}
use Rattle.storage_places.proofs.pictures.places.Given as goal

abbrev pub invariant-loop-rest : goal.invariant-loop-rest
invariant-loop-rest l = length (symbols l.fn.picture) ≡ l.places + length (symbols l.rest)

abbrev pub decreases-loop-rest : goal.decreases-loop-rest
decreases-loop-rest l = length l.rest
