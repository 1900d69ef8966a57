use Rattle.std.proofs.Common.{◌≡◌, ◌≤◌, ◌+◌, length}
use Rattle.data_layout.specs.Tree.{forest, within, beyond}
use Rattle.data_layout.specs.Sizes as sizes
use Rattle.data_layout.proofs.measure.+measure.Given as goal

abbrev pub decreases-measure : goal.decreases-measure
decreases-measure l = length l.entries.now

abbrev pub invariant-loop-entry : goal.invariant-loop-entry
invariant-loop-entry l =
    (beyond l.around (forest l.rest) ≡ beyond l.around (forest l.entries))
    × (l.bytes + sizes.total (within l.around (forest l.rest)) ≡ sizes.total (within l.around (forest l.entries)))
    × (length l.rest ≤ length l.entries)

abbrev pub decreases-loop-entry : goal.decreases-loop-entry
decreases-loop-entry l = length l.rest
