use Rattle.std.proofs.Common.{subst, sym, List}
use Rattle.year_labels.specs.declared.label.Fact.{Fact}
use Rattle.year_labels.specs.Derivation.{IsDerivation, IsClosed}
use Rattle.label_spread.proofs.Least.{Reached-all, derivation_of, closed_of}
use Rattle.label_spread.proofs.closure.derive.Goals as goal

pub returns-clause-derivation : goal.returns-clause-derivation
returns-clause-derivation c =
    let seeds = c.args.seeds.now in
    let rules = c.args.rules.now in
    let reached = Reached-all seeds rules _ _ _ _ c.new-known.ensures c.in_ok-insert_seeds.ensures c.in_ok-start_all.ensures c.in_ok-close.ensures in
    subst (λ (xs : List Fact). IsDerivation seeds rules xs) (sym c.into_list.ensures) (derivation_of seeds rules c.close.new.known reached)

pub returns-clause-closed : goal.returns-clause-closed
returns-clause-closed c =
    let seeds = c.args.seeds.now in
    let rules = c.args.rules.now in
    let reached = Reached-all seeds rules _ _ _ _ c.new-known.ensures c.in_ok-insert_seeds.ensures c.in_ok-start_all.ensures c.in_ok-close.ensures in
    subst (λ (xs : List Fact). IsClosed seeds rules xs) (sym c.into_list.ensures) (closed_of seeds rules c.close.new.known reached c.in_ok-close.ensures.closed)
