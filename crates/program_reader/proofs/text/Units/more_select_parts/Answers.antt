use Rattle.std.proofs.Common.{sym, ◌∙◌, arith}
use Rattle.cond_reader.proofs.Chains.{turn_taken, turn_refused, turns_over}
use Rattle.program_reader.specs.Selects.{with_part}
use Rattle.program_reader.proofs.text.Units.more_select_parts.Goals as goal

pub returns-in-None : goal.returns-in-None
returns-in-None c = turn_refused _ with_part _ c.loop-turn._turn _ _ c.loop-turn.invariant (omega arith) (sym c.in_ok-next_select_part.ensures ∙ c.in-None.is)

pub loop-turn-preserved : goal.loop-turn-preserved
loop-turn-preserved c =
    rw c.beside-parts.ensures
    (turn_taken _ with_part _ c.loop-turn._turn _ _ _ _ c.loop-turn.invariant (omega arith) (sym c.in_ok-next_select_part.ensures ∙ c.in-Some.is))

pub returns : goal.returns
returns c = turns_over _ with_part _ c.loop-turn._turn _ _ c.loop-turn.invariant (omega arith)
