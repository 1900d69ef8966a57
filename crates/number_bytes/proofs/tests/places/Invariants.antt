use Rattle.std.proofs.Common.{◌≡◌, ◌+◌, length, drop}
use Rattle.number_bytes.specs.Stored.{symbols}
use Rattle.number_bytes.proofs.tests.places.Given as goal

abbrev pub invariant-loop-i : goal.invariant-loop-i
invariant-loop-i l = l.places + length (symbols (drop l.i l.picture)) ≡ length (symbols l.picture)
