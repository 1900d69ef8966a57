use Rattle.std.proofs.Common.{rules, ◌≡◌}
use Rattle.year_labels.specs.Facts.{IsClean}
use Rattle.label_report.specs.Answer.{conflicts_text, labels_text}
use Rattle.label_report.proofs.Said.{conflict_rows_said, label_rows_said}
use Rattle.label_report.proofs.command.report.Goals as goal

pub returns-in-Ok-clause-answer : goal.returns-in-Ok-clause-answer
returns-in-Ok-clause-answer g c =
    let clean : IsClean c.args.labelled.now.labels.labelling = c.clean.ensures.0 c.if-clean.true in
    let same : c.items.result.now ≡ labels_text c.args.labelled.now = search rules in
    label_rows_said c.args.opened.now c.args.labelled.now _ _ c.items.result.now _ clean same c.say.ensures.said

pub returns-in-Ok-conflicts_text-clause-answer : goal.returns-in-Ok-conflicts_text-clause-answer
returns-in-Ok-conflicts_text-clause-answer g c =
    let unclean : (IsClean c.args.labelled.now.labels.labelling → ⊥) = search rules in
    let same : c.items-in-Ok-conflicts_text.result.now ≡ conflicts_text c.args.opened.now c.args.labelled.now = search rules in
    conflict_rows_said c.args.opened.now c.args.labelled.now _ _ c.items-in-Ok-conflicts_text.result.now _ unclean same c.say-in-Ok-conflicts_text.ensures.said
