use Rattle.std.proofs.Common.{sym}
use Rattle.year_pairs.proofs.Rows.{lone_more, lone_past, there}
use Rattle.year_pairs.proofs.lone.add_lone_at.Goals as goal

pub add_lone-requires-clause-there : goal.add_lone-requires-clause-there
add_lone-requires-clause-there c = there c.args.labelling.now c.args.index c.in-Some.fact (sym c.in-Some.ensures.value)

pub returns-in_ok-add_lone-in-Some : goal.returns-in_ok-add_lone-in-Some
returns-in_ok-add_lone-in-Some c =
    lone_more c.args.labelling.now c.args.index c.in-Some.fact _ _ c.in-Some.ensures.ordered (sym c.in-Some.ensures.value) c.requires.before c.in_ok-add_lone-in-Some.ensures

pub returns-in-None : goal.returns-in-None
returns-in-None c = lone_past c.args.labelling.now c.args.index _ (sym c.in-None.ensures.value) c.requires.before
