use Rattle.std.proofs.Common.{Contains}
use Rattle.label_spread.proofs.Looks.{ReactsAmong}
use Rattle.label_spread.proofs.closure.react_all.Given as goal

abbrev pub invariant-loop-i : goal.invariant-loop-i
invariant-loop-i l = ReactsAmong l.rules l.found.items l.fact l.fn.known l.known l.i × Contains l.known l.fact
