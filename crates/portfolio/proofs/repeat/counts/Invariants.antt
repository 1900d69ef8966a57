use Rattle.std.proofs.Common.{take}
use Rattle.portfolio.specs.Counts.{CountsAll}
use Rattle.portfolio.proofs.repeat.counts.Given as goal

abbrev pub invariant-loop-name : goal.invariant-loop-name
invariant-loop-name l = CountsAll (take l.name-index l.names) l.counts
