use Rattle.source_edit.proofs.Texts.{edits_end_at, reads_end_at}
use Rattle.source_edit.proofs.whole.edited_texts.Goals as goal

pub returns-clause-texts : goal.returns-clause-texts
returns-clause-texts c = edits_end_at _ _ c.loop-rest.number c.loop-rest.rest.now c.loop-rest.edited.list c.loop-rest.invariant.0 c.in_default.len_below

pub returns-clause-read : goal.returns-clause-read
returns-clause-read c read =
    reads_end_at _ _ c.loop-rest.number c.loop-rest.rest.now c.loop-rest.edited.list (c.loop-rest.invariant.1 read) c.in_default.len_below
