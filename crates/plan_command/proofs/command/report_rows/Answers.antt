use Rattle.std.proofs.Common.{rules, ◌≡◌}
use Rattle.reports.specs.Plans.{IsPlanReport}
use Rattle.plan_command.specs.Answer.{portfolio_of}
use Rattle.plan_command.proofs.Said.{plan_said}
use Rattle.plan_command.proofs.command.report_rows.Goals as goal

pub returns-in-Ok-clause-answer : goal.returns-in-Ok-clause-answer
returns-in-Ok-clause-answer g c =
    let labelled = c.args.labelled.now in
    let rows : IsPlanReport labelled.seeded.gathered.texts (portfolio_of labelled) c.args.plan.now.index c.items.result.now = search rules in
    plan_said labelled c.args.plan.now _ _ c.items.result.now _ c.requires rows c.say.ensures.said
