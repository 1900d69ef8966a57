use Rattle.std.proofs.Common.{◌≡◌, ◌+◌, length}
use Rattle.seed_load.specs.Shelved.{bytes_of}
use Rattle.seed_load.proofs.load.bytes_of.Given as goal

abbrev pub invariant-loop-rest : goal.invariant-loop-rest
invariant-loop-rest l = l.sum + bytes_of l.rest ≡ l.used + bytes_of l.texts

abbrev pub decreases-loop-rest : goal.decreases-loop-rest
decreases-loop-rest l = length l.rest
