use Rattle.std.proofs.Common.{sym, ◌∙◌, arith}
use Rattle.proc_reader.specs.Trees.{either}
use Rattle.cond_reader.proofs.Chains.{turn_taken, turn_refused, turns_over}
use Rattle.proc_reader.proofs.sentence.Sentences.more_whens.Goals as goal

pub returns-in-None : goal.returns-in-None
returns-in-None c = turn_refused _ (either) _ c.loop-turn._turn _ _ c.loop-turn.invariant (omega arith) (sym c.in_ok-when.ensures ∙ c.in-None.is)

pub loop-turn-preserved : goal.loop-turn-preserved
loop-turn-preserved c =
    rw c.in_ok-test-in-Some.ensures
    (turn_taken _ (either) _ c.loop-turn._turn _ _ _ _ c.loop-turn.invariant (omega arith) (sym c.in_ok-when.ensures ∙ c.in-Some.is))

pub returns : goal.returns
returns c = turns_over _ (either) _ c.loop-turn._turn _ _ c.loop-turn.invariant (omega arith)
