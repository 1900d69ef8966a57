use Rattle.std.proofs.Common.{◌≡◌, ◌++◌, length}
use Rattle.source_edit.specs.Changes.{changed, replaced}
use Rattle.source_edit.specs.Clashes.{changes_after, changes_of, replacements_after, replacements_of, clashes_after, edit_clashes}
use Rattle.source_edit.proofs.clash.gathering_of.Given as goal

abbrev pub invariant-loop-rest : goal.invariant-loop-rest
invariant-loop-rest l = (changes_after (changed l.changes) l.rest ≡ changes_of l.edits)
    × (replacements_after (replaced l.replacements) l.rest ≡ replacements_of l.edits)
    × (l.clashes ++ clashes_after (changed l.changes) l.rest ≡ edit_clashes l.edits)

abbrev pub decreases-loop-rest : goal.decreases-loop-rest
decreases-loop-rest l = length l.rest
