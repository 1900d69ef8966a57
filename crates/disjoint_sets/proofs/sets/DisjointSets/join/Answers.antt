use Rattle.std.proofs.Common.{◌≡◌, ◌∙◌, ◌↔◌, ℕ, ◌++◌, List, take, drop, length, arith, sym, subst}
use Rattle.std.proofs.lemmas.List.{take_at}
use Rattle.disjoint_sets.specs.Sets.{IsKept}
use Rattle.disjoint_sets.proofs.sets.DisjointSets.join.Goals as goal

pub returns-clause-joined : goal.returns-clause-joined
returns-clause-joined c = λ keep.
    let trees = c.join_trees.new.parents in
    let back : take c.self.inside.parents.len (trees ++ drop (length trees) c.self.inside.parents.items) ≡ trees = take_at trees _ _ (omega arith) in
    subst (λ (xs : List ℕ). IsKept xs keep ↔ (IsKept c.args.self.now keep × (keep c.args.first ≡ keep c.args.second))) (sym back)
    (subst (λ (xs : List ℕ). IsKept trees keep ↔ (IsKept xs keep × (keep c.args.first ≡ keep c.args.second))) (c.deref_mut.ensures.value ∙ c.self.view_is) (c.join_trees.ensures.joined keep))
