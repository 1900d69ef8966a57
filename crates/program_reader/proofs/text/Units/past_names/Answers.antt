use Rattle.std.proofs.Common.{◌≡◌, true, sym, rules, arith}
use Rattle.cond_reader.specs.declared.symbol.Symbol.TheVariants as s
use Rattle.cond_reader.specs.Text.{sees}
use Rattle.program_reader.specs.View.{view_of}
use Rattle.program_reader.proofs.NameRuns.{name_passed}
use Rattle.program_reader.proofs.text.Units.past_names.Goals as goal

pub loop-turn-preserved : goal.loop-turn-preserved
loop-turn-preserved c =
    let is : sees (view_of c.args.self.now).text s.Name c.loop-turn.at ≡ true = first_of (cc, search rules) in
    name_passed (view_of c.args.self.now) _ c.loop-turn._turn _ c.loop-turn.invariant (omega arith) is
