use Rattle.std.proofs.Common.{◌≡◌, length}
use Rattle.label_spread.proofs.tests.digits.Given as goal

abbrev pub invariant-loop-i : goal.invariant-loop-i
invariant-loop-i l = length l.powers ≡ l.i
