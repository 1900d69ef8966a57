use Rattle.std.proofs.Common.{◌≡◌}
use Rattle.portfolio.proofs.Counts.{first_twice}
use Rattle.portfolio.proofs.repeat.least_counted.Given as goal

abbrev pub invariant-loop-name : goal.invariant-loop-name
invariant-loop-name l = first_twice l.name-iterator ≡ first_twice l.counts.entries
