use Rattle.window_modes.specs.Work.{IsPairDigit}
use Rattle.window_modes.proofs.Found.{Collected}
use Rattle.window_modes.proofs.digits.digits_of_bytes.Given as goal

abbrev pub invariant-loop-i : goal.invariant-loop-i
invariant-loop-i l = Collected (IsPairDigit l.years l.span l.powers) l.found.items l.i l.digits.items
