use Rattle.std.proofs.Common.{sym, ◌∙◌}
use Rattle.trial_run.proofs.Records.{is_record}
use Rattle.trial_run.proofs.plan.Plan.record.Goals as goal

pub returns-in_ok-span-in-Item-clause-record : goal.returns-in_ok-span-in-Item-clause-record
returns-in_ok-span-in-Item-clause-record c =
    is_record c.args.self.now c.requires c.args.name.now c.from_ref.result.now c.in-Item.number c.in_ok-span-in-Item.span c.is_word.ensures c.from_ref.ensures.value
    (sym c.find.ensures ∙ c.in-Item.is) c.in_ok-span-in-Item.ensures.span
