use Rattle.year_pairs.specs.Years.{AreInAreas}
use Rattle.year_pairs.proofs.tests.labelled.Given as goal

abbrev pub invariant-loop-i : goal.invariant-loop-i
invariant-loop-i l = AreInAreas l.facts
