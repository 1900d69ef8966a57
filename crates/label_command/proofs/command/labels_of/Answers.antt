use Rattle.label_command.proofs.Causes.{cause_told}
use Rattle.label_command.proofs.command.labels_of.Goals as goal

pub returns-in-Err-clause-cause : goal.returns-in-Err-clause-cause
returns-in-Err-clause-cause g c = c.refusal_of.ensures.cause c.args.source.now c.args.item.now _ c.in-Err.ensures.cause

pub returns-in-Ok-clause-cause : goal.returns-in-Ok-clause-cause
returns-in-Ok-clause-cause g c =
    cause_told c.args.source.now c.args.item.now _ _ _ c.in-Ok.ensures.ok c.labels_of_text.ensures.cause
