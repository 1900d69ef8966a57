use Rattle.std.proofs.Common.{◌≡◌, drop}
use Rattle.byte_lists.specs.Digit.{all_digits}
use Rattle.number_bytes.proofs.classes.is_digits.Given as goal

abbrev pub invariant-loop-byte : goal.invariant-loop-byte
invariant-loop-byte l = all_digits 48 (drop l.byte-index l.bytes) ≡ all_digits 48 l.bytes
