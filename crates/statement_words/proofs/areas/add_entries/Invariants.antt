use Rattle.std.proofs.Common.{◌≡◌, ◌++◌, length}
use Rattle.statement_words.specs.Areas.{entries}
use Rattle.statement_words.proofs.areas.add_entries.Given as goal

abbrev pub invariant-loop-rest : goal.invariant-loop-rest
invariant-loop-rest l = l.into ++ entries l.at l.rest ≡ l.fn.into ++ entries l.at l.areas

abbrev pub decreases-loop-rest : goal.decreases-loop-rest
decreases-loop-rest l = length l.rest
