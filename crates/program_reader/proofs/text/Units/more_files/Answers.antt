use Rattle.std.proofs.Common.{◌≡◌, true, false, sym, ◌∙◌, rules, arith}
use Rattle.program_reader.specs.Views.{has}
use Rattle.program_reader.specs.declared.term.Term.TheVariants as k
use Rattle.program_reader.specs.View.{view_of}
use Rattle.program_reader.proofs.Eaches.{each_taken, each_refused, each_ended, each_over}
use Rattle.program_reader.proofs.text.Units.more_files.Goals as goal

pub returns-then-not-has : goal.returns-then-not-has
returns-then-not-has c =
    let over : has (view_of c.args.self.now) k.Fd c.loop-turn.at ≡ false = first_of (cc, search rules) in
    each_ended _ _ _ c.loop-turn._turn _ _ c.loop-turn.invariant (omega arith) over

pub returns-in-Err : goal.returns-in-Err
returns-in-Err c =
    let begun : has (view_of c.args.self.now) k.Fd c.loop-turn.at ≡ true = first_of (cc, search rules) in
    each_refused _ _ _ c.loop-turn._turn _ _ _ c.loop-turn.invariant (omega arith) begun (sym c.in_ok-refused.ensures ∙ c.in-Err.is)

pub loop-turn-preserved : goal.loop-turn-preserved
loop-turn-preserved c =
    let begun : has (view_of c.args.self.now) k.Fd c.loop-turn.at ≡ true = first_of (cc, search rules) in
    each_taken _ _ _ c.loop-turn._turn _ _ _ _ c.loop-turn.invariant (omega arith) begun (sym c.in_ok-refused.ensures ∙ c.in-Ok.is)

pub returns : goal.returns
returns c = each_over _ _ _ c.loop-turn._turn _ _ c.loop-turn.invariant (omega arith)
