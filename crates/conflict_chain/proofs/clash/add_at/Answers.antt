use Rattle.std.proofs.Common.{sym, subst, ◌+◌}
use Rattle.conflict_chain.specs.Clashes.{AreConflictsUpTo}
use Rattle.conflict_chain.proofs.Clashes.{skip, add, is_conflict}
use Rattle.conflict_chain.proofs.clash.add_at.Goals as goal

pub returns-in_ok-push-in-Some : goal.returns-in_ok-push-in-Some
returns-in_ok-push-in-Some c =
    let seeds = c.args.seeds.now in
    let rules = c.args.rules.now in
    let facts = c.args.labelling.now in
    let clash = c.in-Some.clash in
    let conflict = c.in_ok-conflict-in-Some.conflict in
    let made = c.in_ok-conflict-in-Some.ensures in
    let is = is_conflict seeds rules facts c.args.index conflict clash.place clash.first clash.second c.clash_at.ensures.ordered c.in-Some.ensures.found made.place made.first made.second made.chain1 made.chain2 in
    subst (AreConflictsUpTo seeds rules facts (c.args.index + 1)) (sym c.in_ok-push-in-Some.ensures.ok)
    (add seeds rules facts c.args.index c.args.list.now conflict c.clash_at.ensures.ordered is.0 is.1 c.requires.before)

pub returns-in-None : goal.returns-in-None
returns-in-None c = skip c.args.seeds.now c.args.rules.now c.args.labelling.now c.args.index c.args.list.now c.clash_at.ensures.ordered c.in-None.ensures.none c.requires.before
