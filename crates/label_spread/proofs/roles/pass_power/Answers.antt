use Rattle.label_spread.proofs.Passes.{Adds-roles}
use Rattle.label_spread.proofs.roles.pass_power.Goals as goal

pub returns : goal.returns
returns c =
    Adds-roles c.args.from.now c.args.to.now c.args.power _ _ _ _ c.requires.from c.in_ok-pass_role.ensures c.in_ok-pass_role-2.ensures c.in_ok-pass_role-3.ensures
