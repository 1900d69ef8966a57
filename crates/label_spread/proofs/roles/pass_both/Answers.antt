use Rattle.label_spread.proofs.Passes.{Adds-digits}
use Rattle.label_spread.proofs.roles.pass_both.Goals as goal

pub returns : goal.returns
returns c = Adds-digits c.args.a.now c.args.b.now _ _ _ c.requires.b c.in_ok-pass_roles.ensures c.in_ok-pass_roles-2.ensures
