use Rattle.std.proofs.Common.{◌≡◌, true, false, sym, ◌∙◌, rules, arith}
use Rattle.program_reader.specs.Procedures.{begins_sentence}
use Rattle.program_reader.specs.View.{view_of}
use Rattle.program_reader.proofs.Eaches.{each_taken, each_refused, each_ended, each_over}
use Rattle.program_reader.proofs.text.Units.more_sentences.Goals as goal

pub returns-then-not-begins_sentence : goal.returns-then-not-begins_sentence
returns-then-not-begins_sentence c =
    let over : begins_sentence (view_of c.args.self.now) c.loop-turn.at ≡ false = first_of (cc, search rules) in
    each_ended _ _ _ c.loop-turn._turn _ _ c.loop-turn.invariant (omega arith) over

pub returns-in-Err : goal.returns-in-Err
returns-in-Err c =
    let begun : begins_sentence (view_of c.args.self.now) c.loop-turn.at ≡ true = first_of (cc, search rules) in
    each_refused _ _ _ c.loop-turn._turn _ _ _ c.loop-turn.invariant (omega arith) begun (sym c.in_ok-refused.ensures ∙ c.in-Err.is)

pub loop-turn-preserved : goal.loop-turn-preserved
loop-turn-preserved c =
    let begun : begins_sentence (view_of c.args.self.now) c.loop-turn.at ≡ true = first_of (cc, search rules) in
    each_taken _ _ _ c.loop-turn._turn _ _ _ _ c.loop-turn.invariant (omega arith) begun (sym c.in_ok-refused.ensures ∙ c.in-Ok.is)

pub returns : goal.returns
returns c = each_over _ _ _ c.loop-turn._turn _ _ c.loop-turn.invariant (omega arith)
