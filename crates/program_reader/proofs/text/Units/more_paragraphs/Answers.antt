use Rattle.std.proofs.Common.{◌≡◌, true, false, sym, ◌∙◌, rules, arith}
use Rattle.std.specs.Prelude.{not}
use Rattle.cond_reader.specs.Text.{sees}
use Rattle.cond_reader.specs.declared.symbol.Symbol.TheVariants as s
use Rattle.program_reader.specs.View.{view_of}
use Rattle.program_reader.proofs.Eaches.{each_taken, each_refused, each_ended, each_over}
use Rattle.program_reader.proofs.text.Units.more_paragraphs.Goals as goal

pub returns-then-sees : goal.returns-then-sees
returns-then-sees c =
    let over : not (sees (view_of c.args.self.now).text s.End c.loop-turn.at) ≡ false = first_of (cc, search rules) in
    each_ended _ _ _ c.loop-turn._turn _ _ c.loop-turn.invariant (omega arith) over

pub returns-in-Err : goal.returns-in-Err
returns-in-Err c =
    let begun : not (sees (view_of c.args.self.now).text s.End c.loop-turn.at) ≡ true = first_of (cc, search rules) in
    each_refused _ _ _ c.loop-turn._turn _ _ _ c.loop-turn.invariant (omega arith) begun (sym c.in_ok-refused.ensures ∙ c.in-Err.is)

pub loop-turn-preserved : goal.loop-turn-preserved
loop-turn-preserved c =
    let begun : not (sees (view_of c.args.self.now).text s.End c.loop-turn.at) ≡ true = first_of (cc, search rules) in
    each_taken _ _ _ c.loop-turn._turn _ _ _ _ c.loop-turn.invariant (omega arith) begun (sym c.in_ok-refused.ensures ∙ c.in-Ok.is)

pub returns : goal.returns
returns c = each_over _ _ _ c.loop-turn._turn _ _ c.loop-turn.invariant (omega arith)
