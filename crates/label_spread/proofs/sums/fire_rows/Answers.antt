use Rattle.label_spread.proofs.Operands.{Adds-rows}
use Rattle.label_spread.proofs.sums.fire_rows.Goals as goal

pub returns : goal.returns
returns g c =
    Adds-rows c.args.table.now.rows c.args.a.now c.args.b.now c.args.c.now c.args.known.now _ _ (c.requires.a, c.requires.b, c.requires.c)
    c.seen_of-seen.ensures c.fires-given.ensures _ _ _ c.in_ok-make.ensures c.in_ok-make-2.ensures c.in_ok-make-3.ensures
