use Rattle.label_spread.proofs.Operands.{seen_all}
use Rattle.label_spread.proofs.sums.seen_of.Goals as goal

pub returns : goal.returns
returns c =
    seen_all c.args.a.now c.args.b.now c.args.c.now c.args.known.now _ c.flags_of.ensures.year c.flags_of.ensures.plain
    c.flags_of-2.ensures.year c.flags_of-2.ensures.plain c.flags_of-3.ensures.year c.flags_of-3.ensures.plain
