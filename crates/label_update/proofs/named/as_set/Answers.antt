use Rattle.std.proofs.lemmas.Map.Views.{btree_set_contains_iff, btree_set_contains_from_list}
use Rattle.label_update.specs.Laws.{named_exact, named_total}
use Rattle.label_update.proofs.named.as_set.Goals as goal

pub returns-clause-same : goal.returns-clause-same
returns-clause-same c = λ f.
    let held = btree_set_contains_iff named_total named_exact c.in_ok-set.set f in
    let given = btree_set_contains_from_list named_total named_exact c.args.facts.items c.in_ok-set.set c.in_ok-set.ensures f in
    (λ h. given.0 (held.1 h), λ h. held.0 (given.1 h))
