use Rattle.year_labels.proofs.Clean.{AreApart}
use Rattle.year_labels.proofs.labelling.have_places_of_their_own.Given as goal

abbrev pub invariant-loop-i : goal.invariant-loop-i
invariant-loop-i l = AreApart l.facts l.i
