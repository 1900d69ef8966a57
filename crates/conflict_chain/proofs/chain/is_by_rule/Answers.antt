use Rattle.std.proofs.Common.{sym}
use Rattle.conflict_chain.proofs.Steps.{by_rule}
use Rattle.conflict_chain.proofs.chain.is_by_rule.Goals as goal

pub returns-then-are_earlier : goal.returns-then-are_earlier
returns-then-are_earlier c =
    by_rule c.args.rules.now c.args.index c.in-Some.rule.now c.args.earlier.now c.args.from.now c.args.fact c.follows.result
    c.in-Some.ensures.lookup.3.0 (sym c.in-Some.ensures.lookup.1) (c.are_earlier.ensures.0 c.if-are_earlier.true) c.follows.ensures
