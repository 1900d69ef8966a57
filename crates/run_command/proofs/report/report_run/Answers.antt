use Rattle.run_command.proofs.Said.{manifest_answered, opened_answered}
use Rattle.run_command.proofs.report.report_run.Goals as goal

pub returns-in-Ok-clause-answer : goal.returns-in-Ok-clause-answer
returns-in-Ok-clause-answer g c =
    opened_answered _ _ _ c.args.main.now c.args.job.now c.args.out.now c.args.day c.args.bound c.in-Ok.opened _ _ _
    c.in-Ok.ensures.same c.in-Ok.ensures.opened c.run_opened.ensures.answer

pub returns-in-Err-clause-answer : goal.returns-in-Err-clause-answer
returns-in-Err-clause-answer g c =
    manifest_answered _ _ c.args.main.now c.args.job.now c.args.out.now c.args.day c.args.bound c.in-Err.refusal _ _ _
    c.in-Err.ensures.same c.in-Err.ensures.refusal c.refuse_manifest.ensures.said
