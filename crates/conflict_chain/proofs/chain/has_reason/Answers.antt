use Rattle.std.proofs.Common.{◌↔◌, ℕ, List, IsTrue, subst}
use Rattle.conflict_chain.specs.Chains.{IsByRule}
use Rattle.conflict_chain.proofs.chain.has_reason.Goals as goal

pub returns-in-Rule : goal.returns-in-Rule
returns-in-Rule c =
    rw c.in-Rule.is
    (subst (λ (from : List ℕ). IsTrue c.is_by_rule.result ↔ IsByRule c.args.rules.now c.in-Rule.index c.args.earlier.now from c.args.step.now.fact) c.items.ensures c.is_by_rule.ensures)
