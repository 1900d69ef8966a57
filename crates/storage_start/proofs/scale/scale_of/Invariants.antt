use Rattle.std.proofs.Common.{◌≡◌, drop}
use Rattle.program_meaning.specs.Kind.{digits_after}
use Rattle.number_bytes.specs.Stored.{symbols}
use Rattle.storage_start.proofs.scale.scale_of.Given as goal

abbrev pub invariant-loop-i : goal.invariant-loop-i
invariant-loop-i l = digits_after (symbols (drop l.i l.picture)) ≡ digits_after (symbols l.picture)
