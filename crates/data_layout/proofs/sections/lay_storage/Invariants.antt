use Rattle.std.proofs.Common.{◌≡◌, ◌++◌, length, None}
use Rattle.data_layout.specs.Items as items
use Rattle.data_layout.specs.Sections as spec
use Rattle.data_layout.proofs.sections.lay_storage.Given as goal

abbrev pub invariant-loop-entry : goal.invariant-loop-entry
invariant-loop-entry l =
    (l.sheet.items ++ spec.storage_items l.owners (length l.sheet.items) (spec.tops l.rest) ≡ l.initial.sheet.items ++ spec.storage_items l.fn.first (length l.initial.sheet.items) (spec.tops l.entries))
    × (l.sheet.conds ++ items.conds None (length l.sheet.items) (spec.tops l.rest) ≡ l.initial.sheet.conds ++ items.conds None (length l.initial.sheet.items) (spec.tops l.entries))
    × (l.areas ++ spec.storage_areas l.owners (spec.tops l.rest) ≡ l.initial.areas ++ spec.storage_areas l.fn.first (spec.tops l.entries))

abbrev pub decreases-loop-entry : goal.decreases-loop-entry
decreases-loop-entry l = length l.rest
