use Rattle.std.proofs.Common.{◌≡◌, true, length}
use Rattle.source_edit.specs.Changes.{changed}
use Rattle.source_edit.proofs.Texts.{Edits, Reads}
use Rattle.source_edit.proofs.whole.edited_texts.Given as goal

abbrev pub invariant-loop-rest : goal.invariant-loop-rest
invariant-loop-rest l =
    Edits (changed l.changes) l.texts l.number l.rest l.edited.list
    × (l.edited.read ≡ true → Reads (changed l.changes) l.texts l.number l.rest l.edited.list)

abbrev pub decreases-loop-rest : goal.decreases-loop-rest
decreases-loop-rest l = length l.rest
