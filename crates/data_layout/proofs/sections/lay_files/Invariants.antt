use Rattle.std.proofs.Common.{◌≡◌, ◌+◌, ◌++◌, length}
use Rattle.data_layout.specs.Sections as spec
use Rattle.data_layout.proofs.sections.lay_files.Given as goal

abbrev pub invariant-loop-file : goal.invariant-loop-file
invariant-loop-file l =
    (l.sheet.items ++ spec.files_items l.id (length l.sheet.items) l.rest ≡ l.initial.sheet.items ++ spec.files_items l.fn.first (length l.initial.sheet.items) l.files)
    × (l.sheet.conds ++ spec.files_conds (length l.sheet.items) l.rest ≡ l.initial.sheet.conds ++ spec.files_conds (length l.initial.sheet.items) l.files)
    × (l.areas ++ spec.files_areas l.id l.rest ≡ l.initial.areas ++ spec.files_areas l.fn.first l.files)
    × (spec.after_files l.id l.rest ≡ spec.after_files l.fn.first l.files)
    × (length l.sheet.items + spec.files_count l.rest ≡ length l.initial.sheet.items + spec.files_count l.files)

abbrev pub decreases-loop-file : goal.decreases-loop-file
decreases-loop-file l = length l.rest
