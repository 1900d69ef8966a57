use Rattle.year_pairs.specs.Years.{AreYearsUpTo}
use Rattle.year_pairs.proofs.years.find_years.Given as goal

abbrev pub invariant-loop-index : goal.invariant-loop-index
invariant-loop-index l = AreYearsUpTo l.labelling l.index l.years
