use Rattle.year_pairs.specs.Lone.{AreLoneUpTo}
use Rattle.year_pairs.proofs.lone.find_lone_bytes.Given as goal

abbrev pub invariant-loop-index : goal.invariant-loop-index
invariant-loop-index l = AreLoneUpTo l.labelling l.index l.lone
