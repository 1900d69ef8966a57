use Rattle.run_command.proofs.Said.{fault_answered, outcome_answered}
use Rattle.run_command.proofs.report.write_and_say.Goals as goal

pub returns-in-Ok-clause-answer : goal.returns-in-Ok-clause-answer
returns-in-Ok-clause-answer g c =
    outcome_answered _ _ c.args.listed.now c.args.out.now c.args.files.now c.args.lines.now c.args.end.now _ _ _ c.in-Ok.ensures.written c.say_lines.ensures.said

pub returns-in-Err-clause-answer : goal.returns-in-Err-clause-answer
returns-in-Err-clause-answer g c =
    fault_answered _ _ c.args.listed.now c.args.out.now c.args.files.now c.args.lines.now c.args.end.now c.in-Err.fault _ _ _ c.in-Err.ensures.fault c.in-Err.ensures.left c.refuse_write.ensures.said
