use Rattle.std.proofs.Common.{◌≡◌, List, ℕ, length, sym, subst}
use Rattle.disjoint_sets.specs.Sets.{AreNamesOf, AreNames}
use Rattle.disjoint_sets.proofs.Naming.{names_all}
use Rattle.disjoint_sets.proofs.sets.DisjointSets.names.Goals as goal

pub returns : goal.returns
returns c =
    let parents = c.self.inside.parents.items in
    let is : c.deref.result.now ≡ parents = c.deref.ensures.value in
    let named : AreNames parents (length parents) c.in_ok-names.names.items = subst (λ (xs : List ℕ). AreNames xs (length xs) c.in_ok-names.names.items) is c.in_ok-names.ensures in
    subst (λ (xs : List ℕ). AreNamesOf xs c.from_vec.result) c.self.view_is
    (subst (λ (names : List ℕ). AreNamesOf parents names) (sym c.from_vec.ensures) (names_all parents c.in_ok-names.names.items named c.self.invariant))
