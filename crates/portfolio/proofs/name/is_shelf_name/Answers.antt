use Rattle.std.proofs.Common.{◌≡◌, false, rules, ◌∙◌}
use Rattle.portfolio.specs.Steps.{is_rest}
use Rattle.portfolio.proofs.NameLaws.{is_rest-name, no_rest}
use Rattle.portfolio.proofs.name.is_shelf_name.Goals as goal

pub returns-then-not-may_follow : goal.returns-then-not-may_follow
returns-then-not-may_follow c =
    let ends : false ≡ is_rest false c.args.name.now = search rules in
    ends ∙ is_rest-name c.args.name.now

pub returns : goal.returns
returns c = no_rest c.loop-rest.is_named c.loop-rest.rest.now c.in_default.len_below ∙ c.loop-rest.invariant ∙ is_rest-name c.args.name.now
