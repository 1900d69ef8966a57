use Rattle.std.proofs.Common.{take}
use Rattle.year_labels.specs.Stretches.{AreRead}
use Rattle.year_labels.proofs.stretch.read_from.Given as goal

abbrev pub invariant-loop-i : goal.invariant-loop-i
invariant-loop-i l = AreRead (take l.i l.facts) l.stretches.items l.byte
