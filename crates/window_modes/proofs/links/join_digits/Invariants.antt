use Rattle.std.proofs.Common.{◌≡◌, ℕ, Contains}
use Rattle.window_modes.specs.declared.digits.YearDigit.{YearDigit}
use Rattle.window_modes.specs.Work.{Joins}
use Rattle.window_modes.proofs.Joined.{ByOneUpTo}
use Rattle.window_modes.proofs.links.join_digits.Given as goal

abbrev pub invariant-loop-i : goal.invariant-loop-i
invariant-loop-i l = Joins (ByOneUpTo (λ (d : YearDigit) (i j : ℕ). (e : YearDigit) × Contains l.those e × ((d.power ≡ e.power) × (i ≡ d.year) × (j ≡ e.year))) l.these l.i) l.fn.sets l.sets
