use Rattle.window_modes.specs.Work.{AreOfMarks}
use Rattle.window_modes.proofs.modes.modes_of.Given as goal

abbrev pub invariant-loop-number : goal.invariant-loop-number
invariant-loop-number l = AreOfMarks l.years l.classes l.marks l.number l.modes
