use Rattle.std.proofs.Common.{◌+◌}
use Rattle.statement_words.specs.Edited.{words_at, between}
use Rattle.statement_words.proofs.Stretches.{edited_step, added}
use Rattle.statement_words.proofs.edited.add_edited.Goals as goal

pub loop-position-preserved : goal.loop-position-preserved
loop-position-preserved c =
    let program = c.args.source.program in
    let words = c.args.source.words.now in
    let edits = c.args.source.edits.now in
    let at = c.loop-position.position in
    added c.loop-position.into _ (words_at program words edits at) (between program words edits at c.args.end) (between program words edits (at + 1) c.args.end) _
    c.in_ok-add_at.ensures (edited_step program words edits at c.args.end c.loop-position-test.true) c.loop-position.invariant
