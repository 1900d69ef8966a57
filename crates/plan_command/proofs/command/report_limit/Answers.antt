use Rattle.std.proofs.Common.{rules, ◌≡◌, ◌⊎◌}
use Rattle.convert_plan.specs.Plans.{IsFirstLimit}
use Rattle.text_conversion.specs.Faults.{IsClashLimit}
use Rattle.plan_command.specs.Answer.{line_of, portfolio_of}
use Rattle.plan_command.proofs.Said.{limit_said}
use Rattle.plan_command.proofs.command.report_limit.Goals as goal

pub returns-in-Ok-clause-answer : goal.returns-in-Ok-clause-answer
returns-in-Ok-clause-answer g c =
    let labelled = c.args.labelled.now in
    let cause : IsFirstLimit labelled.labels.labelling (portfolio_of labelled) labelled.windows c.in-Limit.limit
    ⊎ IsClashLimit labelled.labels.labelling (portfolio_of labelled) labelled.windows c.in-Limit.limit = search rules in
    let line : c.items.result.now ≡ line_of labelled c.in-Limit.limit = search rules in
    limit_said labelled c.in-Limit.limit _ _ c.items.result.now _ cause line c.say.ensures.said
