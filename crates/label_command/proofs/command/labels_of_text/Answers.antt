use Rattle.std.proofs.Common.{List, IfOk, IfErr, subst}
use Rattle.y2k_base.specs.declared.text.Text.{Text}
use Rattle.label_command.specs.Answer.{AreLabelsIn, HasTextsCause}
use Rattle.label_command.proofs.command.labels_of_text.Goals as goal

pub returns-in-Ok-clause-labels : goal.returns-in-Ok-clause-labels
returns-in-Ok-clause-labels c =
    subst (λ (texts : List Text). IfOk c.labels_of_texts.result (λ labels. AreLabelsIn texts c.args.item.now labels.clean labels.text))
    c.in-Ok.ensures c.labels_of_texts.ensures.labels

pub returns-in-Ok-clause-cause : goal.returns-in-Ok-clause-cause
returns-in-Ok-clause-cause c =
    subst (λ (texts : List Text). IfErr c.labels_of_texts.result (HasTextsCause texts c.args.item.now))
    c.in-Ok.ensures c.labels_of_texts.ensures.cause
