use Rattle.std.proofs.Common.{◌≡◌, ℕ, get_or}
use Rattle.window_modes.specs.declared.index.YearByte.{YearByte}
use Rattle.window_modes.specs.Work.{Marks}
use Rattle.window_modes.proofs.Classes.{SomeUpTo}
use Rattle.window_modes.proofs.marks.mark_span.Given as goal

abbrev pub invariant-loop-i : goal.invariant-loop-i
invariant-loop-i l = Marks (SomeUpTo (λ (b : YearByte) (c : ℕ). c ≡ get_or l.names b.year 0) l.found.items l.pivot l.i) l.pivot l.fn.marks l.marks
