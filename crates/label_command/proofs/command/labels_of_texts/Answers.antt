use Rattle.label_command.proofs.Causes.{caused, labelled}
use Rattle.label_command.proofs.command.labels_of_texts.Goals as goal

pub returns-in-Ok-clause-labels : goal.returns-in-Ok-clause-labels
returns-in-Ok-clause-labels c =
    labelled c.args.texts.list c.args.item.now _ _ c.in-Ok.ensures.portfolio c.labels_of_portfolio.ensures.labels

pub returns-in-Ok-clause-cause : goal.returns-in-Ok-clause-cause
returns-in-Ok-clause-cause c =
    caused c.args.texts.list c.args.item.now _ _ c.in-Ok.ensures.portfolio c.labels_of_portfolio.ensures.cause

pub returns-in-Err-clause-cause : goal.returns-in-Err-clause-cause
returns-in-Err-clause-cause c = c.refusal_told.ensures c.args.texts.list c.args.item.now c.in-Err.ensures.fault
