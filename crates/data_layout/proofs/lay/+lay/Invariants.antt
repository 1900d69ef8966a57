use Rattle.std.proofs.Common.{◌≡◌, ◌≤◌, ◌+◌, ◌*◌, ◌++◌, length}
use Rattle.data_layout.specs.Tree.{forest, within, beyond}
use Rattle.data_layout.specs.Items as spec
use Rattle.data_layout.proofs.lay.+lay.Given as goal

abbrev pub decreases-lay_item : goal.decreases-lay_item
decreases-lay_item l = 2 * length l.inner.now + 1

abbrev pub decreases-lay_parts : goal.decreases-lay_parts
decreases-lay_parts l = 2 * length l.entries.now

abbrev pub invariant-lay_parts-loop-entry : goal.invariant-lay_parts-loop-entry
invariant-lay_parts-loop-entry l =
    (beyond l.around_rank (forest l.rest) ≡ beyond l.around_rank (forest l.entries))
    × (length l.rest ≤ length l.entries)
    × (l.sheet.items ++ spec.items l.around (length l.sheet.items) l.next l.object (within l.around_rank (forest l.rest))
    ≡ l.initial.sheet.items ++ spec.items l.around (length l.initial.sheet.items) l.start l.start (within l.around_rank (forest l.entries)))
    × (l.sheet.conds ++ spec.conds l.around.parent (length l.sheet.items) (within l.around_rank (forest l.rest))
    ≡ l.initial.sheet.conds ++ spec.conds l.around.parent (length l.initial.sheet.items) (within l.around_rank (forest l.entries)))

abbrev pub decreases-lay_parts-loop-entry : goal.decreases-lay_parts-loop-entry
decreases-lay_parts-loop-entry l = length l.rest
