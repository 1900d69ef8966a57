use Rattle.source_edit.proofs.Clashing.{is_clash, has_clash}
use Rattle.source_edit.proofs.whole.apply.Goals as goal

pub returns-in-Some-first_limit-clause-err : goal.returns-in-Some-first_limit-clause-err
returns-in-Some-first_limit-clause-err c =
    has_clash c.args.texts.now.list c.args.edits.now.list c.in-Some-first_limit.clash c.fault_of-in-Some-first_limit.result
    c.fault_of-in-Some-first_limit.ensures
    (is_clash c.args.texts.now.list c.in_ok-edited-in-None.edited.list c.args.edits.now.list c.in-Some-first_limit.clash
    _ _ _ _ _ c.in_ok-clashes-in-None.clashes _ _ c.in_ok-before-in-None.before c.in_ok-after-in-None.after
    c.items.ensures c.items-in-None.ensures c.items-in-None-2.ensures c.items-in-None-3.ensures
    c.in_ok-gathering.ensures.clashes c.in-None.ensures.none c.in_ok-gathering.ensures.changes c.in_ok-gathering.ensures.replacements
    c.in_ok-before-in-None.ensures c.in_ok-after-in-None.ensures c.in_ok-edited-in-None.ensures.texts c.in_ok-clashes-in-None.ensures
    c.in-Some-first_limit.ensures.some)
