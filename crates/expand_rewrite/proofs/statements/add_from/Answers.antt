use Rattle.expand_rewrite.specs.Old.{known}
use Rattle.expand_rewrite.proofs.Rest.{first_and_rest}
use Rattle.expand_rewrite.proofs.statements.add_from.Goals as goal

pub returns-in_ok-add_group-in-Some-clause-edits : goal.returns-in_ok-add_group-in-Some-clause-edits
returns-in_ok-add_group-in-Some-clause-edits c =
    first_and_rest (known c.args.program) c.args.edits.now c.add_group.new.edits c.args.parts.now c.args.from c.parts_from.result.now c.in-Some.group.now c.in-Some.more.now
    c.parts_from.ensures c.in-Some.ensures.parts c.in-Some.ensures.groups c.in_ok-add_group-in-Some.ensures
