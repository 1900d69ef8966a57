use Rattle.std.proofs.Common.{List, ℕ, ◌+◌, arith, sym, subst}
use Rattle.disjoint_sets.specs.Sets.{AreNames}
use Rattle.disjoint_sets.proofs.Naming.{no_names, next_name, IsNextName}
use Rattle.disjoint_sets.proofs.names.names_of.Goals as goal

pub loop-number-init : goal.loop-number-init
loop-number-init c = subst (λ (names : List ℕ). AreNames c.args.parents.now 0 names) (sym c.new-names.ensures.items) (no_names c.args.parents.now)

pub loop-number-preserved : goal.loop-number-preserved
loop-number-preserved c =
    subst (λ (names : List ℕ). AreNames c.args.parents.now (c.loop-number.number + 1) names) (sym c.in_ok-push.ensures.items)
    (next_name c.args.parents.now c.loop-number.names.items c.loop-number.number c.name_of-name.result c.requires (omega arith) c.loop-number.invariant (subst (λ (names : List ℕ). IsNextName c.args.parents.now names c.loop-number.number c.name_of-name.result) c.deref.ensures.value c.name_of-name.ensures))
