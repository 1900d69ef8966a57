use Rattle.std.proofs.Common.{◌≡◌, length}
use Rattle.data_layout.specs.Tree.{within, forest}
use Rattle.data_layout.specs.Rules as spec
use Rattle.data_layout.proofs.rules.holds_items.Given as goal

abbrev pub invariant-loop-entry : goal.invariant-loop-entry
invariant-loop-entry l = spec.holds_items (within l.around (forest l.rest)) ≡ spec.holds_items (within l.around (forest l.entries))

abbrev pub decreases-loop-entry : goal.decreases-loop-entry
decreases-loop-entry l = length l.rest
