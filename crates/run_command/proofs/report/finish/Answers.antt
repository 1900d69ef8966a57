use Rattle.std.proofs.Common.{rules, ◌≡◌}
use Rattle.run_command.specs.Answer.{IsOutcomeFor, lines_of}
use Rattle.run_command.proofs.Said.{finish_answered, or_memory}
use Rattle.run_command.proofs.report.finish.Goals as goal

pub returns-in-Ok-clause-answer : goal.returns-in-Ok-clause-answer
returns-in-Ok-clause-answer g c =
    let names : c.items-listed.result.now ≡ c.args.opened.now.manifest.files = search rules in
    let uses : c.items-files.result.now ≡ c.args.gathered.now.portfolio.files = search rules in
    let same : c.items.result.now ≡ lines_of c.args.opened.now.manifest c.args.gathered.now c.args.job.now c.args.end.now = search rules in
    finish_answered _ _ c.args.opened.now c.args.out.now c.args.gathered.now c.args.job.now c.args.end.now
    c.items-listed.result.now c.items-files.result.now c.items.result.now _ _ _ names uses same c.write_and_say.ensures.answer

pub returns-in-Err-clause-answer : goal.returns-in-Err-clause-answer
returns-in-Err-clause-answer g c =
    or_memory (IsOutcomeFor (g.S.Shelf.told c.args.shelf.now) c.args.opened.now c.args.out.now c.args.gathered.now c.args.job.now c.args.end.now) _ _ _
