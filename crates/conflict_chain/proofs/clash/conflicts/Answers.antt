use Rattle.std.proofs.Common.{sym, subst, ◌≡◌, ℕ, length, arith}
use Rattle.conflict_chain.specs.Conflicts.{AreConflictsOf}
use Rattle.conflict_chain.specs.Clashes.{AreConflictsUpTo}
use Rattle.conflict_chain.proofs.Clashes.{start, done, none_at_all}
use Rattle.conflict_chain.proofs.clash.conflicts.Goals as goal

pub returns-then-clean : goal.returns-then-clean
returns-then-clean c =
    let seeds = c.args.seeds.now in
    let rules = c.args.rules.now in
    let facts = c.args.labelling.now in
    subst (AreConflictsOf seeds rules facts) (sym c.new-list.ensures) (none_at_all seeds rules facts (c.clean.ensures.0 c.if-clean.true))

pub loop-index-init : goal.loop-index-init
loop-index-init c =
    let seeds = c.args.seeds.now in
    let rules = c.args.rules.now in
    let facts = c.args.labelling.now in
    subst (AreConflictsUpTo seeds rules facts 0) (sym c.new-list.ensures) (start seeds rules facts)

pub returns : goal.returns
returns c =
    let seeds = c.args.seeds.now in
    let rules = c.args.rules.now in
    let facts = c.args.labelling.now in
    let all : c.loop-index.index ≡ length facts = omega arith in
    done seeds rules facts c.loop-index.list (subst (λ (n : ℕ). AreConflictsUpTo seeds rules facts n c.loop-index.list) all c.loop-index.invariant)
