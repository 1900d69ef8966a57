use Rattle.window_modes.specs.Work.{Joins}
use Rattle.window_modes.proofs.Joined.{ByOneUpTo}
use Rattle.window_modes.proofs.Found.{IsTwin}
use Rattle.window_modes.proofs.links.join_twins.Given as goal

abbrev pub invariant-loop-i : goal.invariant-loop-i
invariant-loop-i l = Joins (ByOneUpTo (IsTwin l.bytes.keys l.a l.b) l.found.items l.i) l.fn.sets l.sets
