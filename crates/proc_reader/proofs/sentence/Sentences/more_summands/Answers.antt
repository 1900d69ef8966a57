use Rattle.std.proofs.Common.{sym, ◌∙◌, arith}
use Rattle.proc_reader.specs.Trees.{joined}
use Rattle.proc_reader.specs.declared.tree.Joining.TheVariants as by
use Rattle.cond_reader.proofs.Chains.{turn_taken, turn_refused, turns_over}
use Rattle.proc_reader.proofs.sentence.Sentences.more_summands.Goals as goal

pub returns-in-None : goal.returns-in-None
returns-in-None c = turn_refused _ (joined by.Add) _ c.loop-turn._turn _ _ c.loop-turn.invariant (omega arith) (sym c.in_ok-operand.ensures ∙ c.in-None.is)

pub loop-turn-preserved : goal.loop-turn-preserved
loop-turn-preserved c =
    rw c.in_ok-sum-in-Some.ensures
    (turn_taken _ (joined by.Add) _ c.loop-turn._turn _ _ _ _ c.loop-turn.invariant (omega arith) (sym c.in_ok-operand.ensures ∙ c.in-Some.is))

pub returns : goal.returns
returns c = turns_over _ (joined by.Add) _ c.loop-turn._turn _ _ c.loop-turn.invariant (omega arith)
