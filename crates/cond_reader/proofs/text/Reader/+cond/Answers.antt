use Rattle.std.proofs.Common.{Option, ap, sym, ◌∙◌, arith}
use Rattle.cond_reader.specs.declared.relation.Last.{Last}
use Rattle.cond_reader.specs.Relations.{both, either}
use Rattle.cond_reader.specs.Conds.{next_and, next_or, inside}
use Rattle.cond_reader.specs.View.{text_of}
use Rattle.cond_reader.proofs.Chains.{turn_taken, turn_refused, turns_over}
use Rattle.cond_reader.proofs.text.Reader.+cond.Goals as goal

pub more_ands-returns-in-None : goal.more_ands-returns-in-None
more_ands-returns-in-None t c =
    let text = text_of c.args.self.now in
    let read = ap (λ (l : Option Last). next_and text c.args.level (inside text c.args.level) l c.loop-turn.at) (sym c.in_force.ensures) ∙ sym c.in_ok-next_and.ensures ∙ c.in-None.is in
    turn_refused _ both _ c.loop-turn._turn _ _ c.loop-turn.invariant (omega arith) read

pub more_ands-loop-turn-preserved : goal.more_ands-loop-turn-preserved
more_ands-loop-turn-preserved t c =
    let text = text_of c.args.self.now in
    let read = ap (λ (l : Option Last). next_and text c.args.level (inside text c.args.level) l c.loop-turn.at) (sym c.in_force.ensures) ∙ sym c.in_ok-next_and.ensures ∙ c.in-Some.is in
    rw c.in_ok-left-in-Some.ensures (turn_taken _ both _ c.loop-turn._turn _ _ _ _ c.loop-turn.invariant (omega arith) read)

pub more_ands-returns : goal.more_ands-returns
more_ands-returns t c = turns_over _ both _ c.loop-turn._turn _ _ c.loop-turn.invariant (omega arith)

pub more_ors-returns-in-None : goal.more_ors-returns-in-None
more_ors-returns-in-None t c =
    let text = text_of c.args.self.now in
    let read = ap (λ (l : Option Last). next_or text c.args.level (inside text c.args.level) l c.loop-turn.at) (sym c.in_force.ensures) ∙ sym c.in_ok-next_or.ensures ∙ c.in-None.is in
    turn_refused _ either _ c.loop-turn._turn _ _ c.loop-turn.invariant (omega arith) read

pub more_ors-loop-turn-preserved : goal.more_ors-loop-turn-preserved
more_ors-loop-turn-preserved t c =
    let text = text_of c.args.self.now in
    let read = ap (λ (l : Option Last). next_or text c.args.level (inside text c.args.level) l c.loop-turn.at) (sym c.in_force.ensures) ∙ sym c.in_ok-next_or.ensures ∙ c.in-Some.is in
    rw c.in_ok-left-in-Some.ensures (turn_taken _ either _ c.loop-turn._turn _ _ _ _ c.loop-turn.invariant (omega arith) read)

pub more_ors-returns : goal.more_ors-returns
more_ors-returns t c = turns_over _ either _ c.loop-turn._turn _ _ c.loop-turn.invariant (omega arith)
