use Rattle.std.proofs.Common.{◌≡◌, true, take}
use Rattle.byte_lists.specs.Digit.{all_digits}
use Rattle.byte_lists.specs.HalfBytes.{halves}
use Rattle.year_ageing.proofs.packed.holds_packed.Given as goal

abbrev pub invariant-loop-at : goal.invariant-loop-at
invariant-loop-at l = all_digits 0 (take l.at (halves l.bytes)) ≡ true
