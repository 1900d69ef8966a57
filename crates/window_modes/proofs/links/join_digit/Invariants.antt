use Rattle.std.proofs.Common.{◌≡◌, ℕ}
use Rattle.window_modes.specs.declared.digits.YearDigit.{YearDigit}
use Rattle.window_modes.specs.Work.{Joins}
use Rattle.window_modes.proofs.Joined.{ByOneUpTo}
use Rattle.window_modes.proofs.links.join_digit.Given as goal

abbrev pub invariant-loop-i : goal.invariant-loop-i
invariant-loop-i l = Joins (ByOneUpTo (λ (e : YearDigit) (i j : ℕ). (l.digit.power ≡ e.power) × (i ≡ l.digit.year) × (j ≡ e.year)) l.those l.i) l.fn.sets l.sets
