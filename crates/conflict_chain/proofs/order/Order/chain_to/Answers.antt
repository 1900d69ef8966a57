use Rattle.std.proofs.Common.{subst, List}
use Rattle.year_labels.specs.declared.label.Seed.{Seed}
use Rattle.conflict_chain.specs.Chains.{IsChain}
use Rattle.conflict_chain.proofs.Steps.{of_more_seeds}
use Rattle.conflict_chain.proofs.order.Order.chain_to.Goals as goal

pub returns-then-check_chain : goal.returns-then-check_chain
returns-then-check_chain c =
    let used = c.in_ok-used.used.items in
    let steps = c.in_ok-chain.chain.steps in
    of_more_seeds used c.args.seeds.now c.args.rules.now steps c.args.fact c.in_ok-used.ensures
    (subst (λ (seeds : List Seed). IsChain seeds c.args.rules.now steps c.args.fact) c.as_slice.ensures.value (c.check_chain.ensures.0 c.if-check_chain.true))
