use Rattle.std.proofs.Common.{sym, ◌∙◌, arith}
use Rattle.cond_reader.specs.Reads.{with_last}
use Rattle.cond_reader.proofs.Chains.{turn_taken, turn_refused, turns_over}
use Rattle.proc_reader.proofs.sentence.Sentences.more_operands.Goals as goal

pub returns-in-None : goal.returns-in-None
returns-in-None c = turn_refused _ with_last _ c.loop-turn._turn _ _ c.loop-turn.invariant (omega arith) (sym c.in_ok-operand.ensures ∙ c.in-None.is)

pub loop-turn-preserved : goal.loop-turn-preserved
loop-turn-preserved c =
    rw c.in_ok-push-in-Some.ensures.ok
    (turn_taken _ with_last _ c.loop-turn._turn _ _ _ _ c.loop-turn.invariant (omega arith) (sym c.in_ok-operand.ensures ∙ c.in-Some.is))

pub returns : goal.returns
returns c = turns_over _ with_last _ c.loop-turn._turn _ _ c.loop-turn.invariant (omega arith)
