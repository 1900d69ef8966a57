use Rattle.std.proofs.Common.{◌∙◌, ◌-◌, ◌+◌, arith, length}
use Rattle.data_layout.proofs.InFind.{outwards, at-none, at-last}
use Rattle.data_layout.proofs.find.is_in.Goals as goal

pub returns-in-None : goal.returns-in-None
returns-in-None c =
    c.ends-outermost.ensures ∙ at-none (length c.args.items.now - c.loop-turn._turn) c.args.items.now c.args.areas.now c.args.id c.loop-turn.outer c.loop-turn.left.now c.in-None.is ∙ c.loop-turn.invariant

pub loop-turn-preserved : goal.loop-turn-preserved
loop-turn-preserved c =
    outwards (length c.args.items.now - c.loop-turn._turn) (length c.args.items.now - (c.loop-turn._turn + 1)) c.args.items.now c.args.areas.now c.args.id c.loop-turn.outer c.holder_of-outer.result c.loop-turn.left.now c.left_after-left.result.now c.in-Some.number
    (omega arith) c.in-Some.is c.left_after-left.ensures c.holder_of-outer.ensures ∙ c.loop-turn.invariant

pub returns : goal.returns
returns c =
    c.ends-last.ensures ∙ at-last (length c.args.items.now - c.loop-turn._turn) c.args.items.now c.args.areas.now c.args.id c.loop-turn.outer c.loop-turn.left.now (omega arith) ∙ c.loop-turn.invariant
