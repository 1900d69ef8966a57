use Rattle.year_pairs.proofs.tests.years_of.Goals as goal

pub find_years-requires-clause-clean : goal.find_years-requires-clause-clean
find_years-requires-clause-clean c = c.clean.ensures.0 c.if-clean.true
