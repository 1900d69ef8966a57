use Rattle.std.proofs.Common.{◌≡◌, length}
use Rattle.window_modes.proofs.tests.digits.Given as goal

abbrev pub invariant-loop-i : goal.invariant-loop-i
invariant-loop-i l = length l.powers ≡ l.i
