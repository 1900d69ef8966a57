use Rattle.disjoint_sets.proofs.Naming.{joined_roots, turned_roots}
use Rattle.disjoint_sets.proofs.forest.join_trees.Goals as goal

pub hang-requires-else-one-other-clause-root : goal.hang-requires-else-one-other-clause-root
hang-requires-else-one-other-clause-root c = c.find_root-other.ensures.roots c.find_root-one.result c.find_root-one.ensures.root

pub returns-then-one-other-clause-joined : goal.returns-then-one-other-clause-joined
returns-then-one-other-clause-joined c = λ keep.
    joined_roots c.args.parents.now c.find_root-one.new.parents c.find_root-other.new.parents c.hang.new.parents keep c.args.first c.args.second c.find_root-one.result c.find_root-other.result
    (c.find_root-one.ensures.same keep) (c.find_root-other.ensures.same keep) (c.find_root-one.ensures.held keep) (c.find_root-other.ensures.held keep)
    (turned_roots c.find_root-other.new.parents c.hang.new.parents keep c.find_root-one.result c.find_root-other.result (c.hang.ensures.joined keep))

pub returns-else-one-other-clause-joined : goal.returns-else-one-other-clause-joined
returns-else-one-other-clause-joined c = λ keep.
    joined_roots c.args.parents.now c.find_root-one.new.parents c.find_root-other.new.parents c.hang-else-one-other.new.parents keep c.args.first c.args.second c.find_root-one.result c.find_root-other.result
    (c.find_root-one.ensures.same keep) (c.find_root-other.ensures.same keep) (c.find_root-one.ensures.held keep) (c.find_root-other.ensures.held keep)
    (c.hang-else-one-other.ensures.joined keep)
