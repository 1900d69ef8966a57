use Rattle.std.proofs.Common.{◌≡◌, ◌≤◌, ◌+◌, drop}
use Rattle.program_meaning.specs.Kind.{digits_shown}
use Rattle.number_bytes.specs.Stored.{symbols}
use Rattle.storage_start.proofs.scale.shown_digits.Given as goal

abbrev pub invariant-loop-i : goal.invariant-loop-i
invariant-loop-i l = record {
  so_far : l.digits + digits_shown (symbols (drop l.i l.picture)) ≡ digits_shown (symbols l.picture);
  few : l.digits ≤ 18;
}
