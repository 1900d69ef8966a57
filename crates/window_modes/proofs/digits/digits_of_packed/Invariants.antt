use Rattle.window_modes.specs.Work.{IsPackedDigit}
use Rattle.window_modes.proofs.Found.{Collected}
use Rattle.window_modes.proofs.digits.digits_of_packed.Given as goal

abbrev pub invariant-loop-i : goal.invariant-loop-i
invariant-loop-i l = Collected (IsPackedDigit l.years l.span l.count) l.found.items l.i l.digits.items
