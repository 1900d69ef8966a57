use Rattle.std.proofs.Common.{◌≡◌, ◌+◌, length}
use Rattle.data_layout.specs.Index as spec
use Rattle.data_layout.proofs.index.Index.add_items.Given as goal

abbrev pub invariant-loop-item : goal.invariant-loop-item
invariant-loop-item l =
    (spec.with_items (spec.held l.self) l.number l.rest ≡ spec.with_items (spec.held l.initial.self) 0 l.items)
    × (l.number + length l.rest ≡ length l.items)

abbrev pub decreases-loop-item : goal.decreases-loop-item
decreases-loop-item l = length l.rest
