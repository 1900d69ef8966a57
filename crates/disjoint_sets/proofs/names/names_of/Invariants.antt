use Rattle.disjoint_sets.specs.Sets.{AreNames}
use Rattle.disjoint_sets.proofs.names.names_of.Given as goal

abbrev pub invariant-loop-number : goal.invariant-loop-number
invariant-loop-number l = AreNames l.parents l.number l.names.items
