use Rattle.std.proofs.Common.{◌+◌, ◌-◌, ◌++◌, [], ap, ◌∙◌}
use Rattle.statement_words.specs.Edited.{edit_at, removals}
use Rattle.statement_words.proofs.Stretches.{removals_step, added}
use Rattle.statement_words.proofs.edited.add_removals.Goals as goal

pub loop-position-preserved : goal.loop-position-preserved
loop-position-preserved c =
    let program = c.args.program in
    let words = c.args.words.now in
    let at = c.loop-position.position in
    let end = c.args.end in
    added c.loop-position.edits _ (edit_at program words at []) (removals program words at (end - at)) (removals program words (at + 1) (end - (at + 1))) _
    (c.in_ok-add_edit.ensures ∙ ap (λ new. c.loop-position.edits ++ edit_at program words at new) c.new.ensures) (removals_step program words at end c.loop-position-test.true) c.loop-position.invariant
