use Rattle.std.proofs.Common.{take}
use Rattle.window_modes.specs.Work.{AreMarked}
use Rattle.window_modes.proofs.marks.mark_groups.Given as goal

abbrev pub invariant-loop-group : goal.invariant-loop-group
invariant-loop-group l = AreMarked l.bytes.keys l.names (take l.group-index l.groups) l.fn.marks l.marks
