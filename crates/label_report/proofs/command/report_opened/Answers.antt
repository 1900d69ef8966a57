use Rattle.label_report.specs.Answer.{IsReport}
use Rattle.label_report.proofs.Said.{refusal_answered, refusal_form, refusal_rose, report_answered}
use Rattle.label_report.proofs.command.report_opened.Goals as goal

pub returns-in-Ok-clause-answer : goal.returns-in-Ok-clause-answer
returns-in-Ok-clause-answer g c = report_answered IsReport _ c.args.opened.now c.in-Ok.labelled _ _ _ c.in-Ok.ensures.labelled c.report.ensures.answer

pub returns-in-Err-clause-answer : goal.returns-in-Err-clause-answer
returns-in-Err-clause-answer g c = refusal_answered IsReport _ c.args.opened.now c.in-Err.refusal _ _ _ c.in-Err.ensures.refusal c.refuse.ensures.said

pub returns-in-Err-clause-form : goal.returns-in-Err-clause-form
returns-in-Err-clause-form g c = refusal_form c.args.opened.now c.in-Err.refusal _ _ _ c.refuse.ensures.said

pub returns-in-Err-clause-shelf_fault : goal.returns-in-Err-clause-shelf_fault
returns-in-Err-clause-shelf_fault g c =
    refusal_rose c.args.opened.now c.in-Err.refusal _ _ _ _ _ c.refuse.ensures.said c.in-Err.ensures.rose
