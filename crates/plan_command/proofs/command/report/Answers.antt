use Rattle.std.proofs.Common.{rules, ◌≡◌}
use Rattle.year_labels.specs.Facts.{IsClean}
use Rattle.label_report.specs.Answer.{conflicts_text}
use Rattle.plan_command.proofs.Said.{clean_said, conflicts_said}
use Rattle.plan_command.proofs.command.report.Goals as goal

pub report_clean-requires-clause-clean : goal.report_clean-requires-clause-clean
report_clean-requires-clause-clean g c = c.clean.ensures.0 c.if-clean.true

pub returns-then-clean-clause-answer : goal.returns-then-clean-clause-answer
returns-then-clean-clause-answer g c =
    let clean : IsClean c.args.labelled.now.labels.labelling = c.clean.ensures.0 c.if-clean.true in
    clean_said c.args.opened.now c.args.labelled.now _ _ _ clean c.report_clean.ensures.answer

pub returns-in-Ok-clause-answer : goal.returns-in-Ok-clause-answer
returns-in-Ok-clause-answer g c =
    let unclean : (IsClean c.args.labelled.now.labels.labelling → ⊥) = search rules in
    let same : c.items.result.now ≡ conflicts_text c.args.opened.now c.args.labelled.now = search rules in
    conflicts_said c.args.opened.now c.args.labelled.now _ _ c.items.result.now _ unclean same c.say.ensures.said
