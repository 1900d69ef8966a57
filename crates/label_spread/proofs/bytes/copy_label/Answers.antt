use Rattle.label_spread.proofs.Copies.{Reacts-copied, Reacts-apart}
use Rattle.label_spread.proofs.bytes.copy_label.Goals as goal

pub returns-in_ok-insert_at-in-Some : goal.returns-in_ok-insert_at-in-Some
returns-in_ok-insert_at-in-Some c =
    Reacts-copied c.args.from c.args.to c.args.fact c.in-Some.index _ _ c.in-Some.ensures.found.0 c.in-Some.ensures.found.1 c.requires.there c.in_ok-insert_at-in-Some.ensures

pub returns-in-None : goal.returns-in-None
returns-in-None c = Reacts-apart c.args.from c.args.to c.args.fact _ c.in-None.ensures.none
