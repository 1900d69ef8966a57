use Rattle.window_modes.specs.Work.{Marks, HasClassIn}
use Rattle.window_modes.proofs.Classes.{SomeUpTo}
use Rattle.window_modes.proofs.marks.mark_group.Given as goal

abbrev pub invariant-loop-i : goal.invariant-loop-i
invariant-loop-i l = Marks (SomeUpTo (HasClassIn l.bytes.keys l.names) l.spans l.group.pivot l.i) l.group.pivot l.fn.marks l.marks
