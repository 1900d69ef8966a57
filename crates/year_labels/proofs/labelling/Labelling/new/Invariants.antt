use Rattle.std.proofs.Common.{take}
use Rattle.year_labels.proofs.Keys.{AreKeysOf}
use Rattle.year_labels.proofs.labelling.Labelling.new.Given as goal

abbrev pub invariant-loop-i : goal.invariant-loop-i
invariant-loop-i l = AreKeysOf l.sorted.keys (take l.i l.items)
