use Rattle.std.proofs.Common.{◌≡◌, drop}
use Rattle.program_meaning.specs.Kind.{has_dash}
use Rattle.number_bytes.specs.Stored.{symbols}
use Rattle.number_bytes.proofs.editing.has_minus.Given as goal

abbrev pub invariant-loop-i : goal.invariant-loop-i
invariant-loop-i l = has_dash (symbols (drop l.i l.picture)) ≡ has_dash (symbols l.picture)
