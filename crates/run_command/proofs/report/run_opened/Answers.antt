use Rattle.run_command.proofs.JobLaws.{numbers-in, sound-numbers}
use Rattle.run_command.proofs.Said.{prepared_answered, refusal_answered}
use Rattle.run_command.proofs.report.run_opened.Goals as goal

pub run_prepared-requires-clause-programs : goal.run_prepared-requires-clause-programs
run_prepared-requires-clause-programs g c =
    numbers-in c.args.opened.now.manifest c.in-Ok.prepared.gathered.portfolio c.args.job.now c.in-Ok.prepared.job.programs c.in-Ok.ensures.sound c.in-Ok.ensures.prepared.1.1.0

pub run_prepared-requires-clause-numbered : goal.run_prepared-requires-clause-numbered
run_prepared-requires-clause-numbered g c = sound-numbers c.in-Ok.prepared.gathered.portfolio c.in-Ok.ensures.sound

pub returns-in-Ok-clause-answer : goal.returns-in-Ok-clause-answer
returns-in-Ok-clause-answer g c =
    prepared_answered _ _ _ c.args.main.now c.args.job.now c.args.out.now c.args.day c.args.bound c.args.opened.now c.in-Ok.prepared _ _ _
    c.in-Ok.ensures.same c.in-Ok.ensures.prepared c.run_prepared.ensures.answer

pub returns-in-Err-clause-answer : goal.returns-in-Err-clause-answer
returns-in-Err-clause-answer g c =
    refusal_answered _ _ c.args.main.now c.args.job.now c.args.out.now c.args.day c.args.bound c.args.opened.now c.in-Err.refusal _ _ _
    c.in-Err.ensures.same c.in-Err.ensures.refusal c.refuse_run.ensures.said
