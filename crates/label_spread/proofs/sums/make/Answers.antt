use Rattle.label_spread.proofs.Operands.{Adds-made}
use Rattle.label_spread.proofs.sums.make.Goals as goal

pub returns : goal.returns
returns c = Adds-made c.args.view.now c.args.flags _ _ _ c.in_ok-make_year_if.ensures c.in_ok-make_plain_if.ensures
