use Rattle.std.proofs.Common.{sym}
use Rattle.year_pairs.proofs.Rows.{years_more, years_past, there}
use Rattle.year_pairs.proofs.years.add_year_at.Goals as goal

pub add_year-requires-clause-there : goal.add_year-requires-clause-there
add_year-requires-clause-there c = there c.args.labelling.now c.args.index c.in-Some.fact (sym c.in-Some.ensures.value)

pub returns-in_ok-add_year-in-Some : goal.returns-in_ok-add_year-in-Some
returns-in_ok-add_year-in-Some c =
    years_more c.args.labelling.now c.args.index c.in-Some.fact _ _ c.requires.clean c.in-Some.ensures.ordered (sym c.in-Some.ensures.value) c.requires.before c.in_ok-add_year-in-Some.ensures

pub returns-in-None : goal.returns-in-None
returns-in-None c = years_past c.args.labelling.now c.args.index _ (sym c.in-None.ensures.value) c.requires.before
