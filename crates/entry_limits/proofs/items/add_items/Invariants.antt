use Rattle.std.proofs.Common.{◌≡◌, ◌++◌, length}
use Rattle.entry_limits.specs.Items as spec
use Rattle.entry_limits.proofs.items.add_items.Given as goal

abbrev pub invariant-loop-rest : goal.invariant-loop-rest
invariant-loop-rest l =
    l.limits ++ spec.items_limits l.index l.words l.rest ≡ l.fn.limits ++ spec.items_limits l.index l.words l.items

abbrev pub decreases-loop-rest : goal.decreases-loop-rest
decreases-loop-rest l = length l.rest
