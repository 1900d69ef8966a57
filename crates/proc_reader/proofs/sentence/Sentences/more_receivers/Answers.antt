use Rattle.std.proofs.Common.{sym, ◌∙◌, arith}
use Rattle.proc_reader.specs.Arithmetic.{one_more}
use Rattle.cond_reader.proofs.Chains.{turn_taken, turn_refused, turns_over}
use Rattle.proc_reader.proofs.sentence.Sentences.more_receivers.Goals as goal

pub returns-in-None : goal.returns-in-None
returns-in-None c = turn_refused _ (one_more) _ c.loop-turn._turn _ _ c.loop-turn.invariant (omega arith) (sym c.in_ok-receiver.ensures ∙ c.in-None.is)

pub loop-turn-preserved : goal.loop-turn-preserved
loop-turn-preserved c =
    rw c.in_ok-receivers-in-Some.ensures
    (turn_taken _ (one_more) _ c.loop-turn._turn _ _ _ _ c.loop-turn.invariant (omega arith) (sym c.in_ok-receiver.ensures ∙ c.in-Some.is))

pub returns : goal.returns
returns c = turns_over _ (one_more) _ c.loop-turn._turn _ _ c.loop-turn.invariant (omega arith)
