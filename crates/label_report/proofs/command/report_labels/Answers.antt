use Rattle.std.proofs.Common.{Err, ap}
use Rattle.manifest_load.specs.declared.refusal.ManifestRefusal.{ManifestRefusal}
use Rattle.label_report.specs.Answer.{IsReport}
use Rattle.label_report.proofs.Said.{manifest_answered, manifest_said, opened_answered, shelf_said}
use Rattle.label_report.proofs.command.report_labels.Goals as goal

pub returns-in-Ok-clause-answer : goal.returns-in-Ok-clause-answer
returns-in-Ok-clause-answer g c =
    opened_answered IsReport c.args.main.now _ _ c.in-Ok.opened _ _ _ c.in-Ok.ensures.same c.in-Ok.ensures.opened c.report_opened.ensures.answer

pub returns-in-Err-clause-answer : goal.returns-in-Err-clause-answer
returns-in-Err-clause-answer g c = manifest_answered IsReport c.args.main.now _ c.in-Err.refusal _ _ _ c.in-Err.ensures.refusal c.refuse_manifest.ensures.said

pub returns-in-Err-clause-form : goal.returns-in-Err-clause-form
returns-in-Err-clause-form g c = manifest_said c.args.main.now c.in-Err.refusal _ _ _ c.refuse_manifest.ensures.said

pub returns-in-Err-clause-shelf_fault : goal.returns-in-Err-clause-shelf_fault
returns-in-Err-clause-shelf_fault g c = λ e. c.in-Err.ensures.failed
    (ap (λ (r : ManifestRefusal). Err r) (shelf_said c.args.main.now c.in-Err.refusal _ _ _ c.refuse_manifest.ensures.said e))
