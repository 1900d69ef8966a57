use Rattle.std.proofs.Common.{◌≡◌, ℕ}
use Rattle.window_modes.specs.declared.index.YearByte.{YearByte}
use Rattle.window_modes.specs.Work.{Joins}
use Rattle.window_modes.proofs.Joined.{ByOneUpTo}
use Rattle.window_modes.proofs.links.join_bytes.Given as goal

abbrev pub invariant-loop-i : goal.invariant-loop-i
invariant-loop-i l = Joins (ByOneUpTo (λ (b : YearByte) (i j : ℕ). (i ≡ l.year) × (j ≡ b.year)) l.found l.i) l.fn.sets l.sets
