use Rattle.std.proofs.Common.{sym, subst, All, Contains, List}
use Rattle.std.proofs.lemmas.List.Elements.{All-push}
use Rattle.year_labels.specs.declared.label.Seed.{Seed}
use Rattle.conflict_chain.proofs.order.Order.add_seed.Goals as goal

pub returns-in_ok-push-in-Some : goal.returns-in_ok-push-in-Some
returns-in_ok-push-in-Some c =
    let seeds : List Seed = c.args.seeds.now in
    subst (All (Contains seeds)) (sym c.in_ok-push-in-Some.ensures.items) (All-push (Contains seeds) c.args.used.now.items c.in-Some.seed c.requires c.in-Some.ensures)
