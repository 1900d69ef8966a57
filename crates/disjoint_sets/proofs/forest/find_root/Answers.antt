use Rattle.std.proofs.Common.{arith, ◌∙◌}
use Rattle.disjoint_sets.proofs.Naming.{hung_more}
use Rattle.disjoint_sets.proofs.forest.find_root.Goals as goal

pub loop-parents-preserved : goal.loop-parents-preserved
loop-parents-preserved c = record {
  forest = c.climb-at.ensures.forest;
  roots = λ k root. c.climb-at.ensures.roots k (c.loop-parents.invariant.roots k root);
  within = omega arith;
  same = λ keep. hung_more c.args.parents.now c.loop-parents.parents c.climb-at.new.parents keep (c.loop-parents.invariant.same keep) (c.climb-at.ensures.same keep);
  held = λ keep kept. c.loop-parents.invariant.held keep kept ∙ c.climb-at.ensures.held keep ((c.loop-parents.invariant.same keep).1 kept);
}
