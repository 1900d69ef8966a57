use Rattle.std.proofs.Common.{◌≡◌, ◌++◌, length}
use Rattle.entry_limits.specs.Covering as spec
use Rattle.entry_limits.proofs.covering.add_entries.Given as goal

abbrev pub invariant-loop-rest : goal.invariant-loop-rest
invariant-loop-rest l =
    l.entries ++ spec.entries_among l.area l.words l.rest ≡ l.fn.entries ++ spec.entries_among l.area l.words l.items

abbrev pub decreases-loop-rest : goal.decreases-loop-rest
decreases-loop-rest l = length l.rest
