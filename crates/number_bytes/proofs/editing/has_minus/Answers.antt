use Rattle.std.proofs.Common.{Bool, ◌||◌, ap, sym, ◌∙◌, ◌+◌, replicate, drop, get_or}
use Rattle.y2k_base.specs.declared.picture.Run.{Run}
use Rattle.program_meaning.specs.Kind.{symbol_of, has_dash}
use Rattle.number_bytes.specs.Stored.{symbols}
use Rattle.number_bytes.proofs.EditLaws.{symbols_at, has_dash-append}
use Rattle.number_bytes.proofs.editing.has_minus.Goals as goal

pub returns-then-is_minus_run : goal.returns-then-is_minus_run
returns-then-is_minus_run c =
    let p = c.args.picture.now in
    let i = c.loop-i.i in
    let blank : Run = record { symbol = 0; count = 0 } in
    let run = get_or p i blank in
    let here = replicate run.count (symbol_of run.symbol) in
    let rest = symbols (drop (i + 1) p) in
    sym (sym c.loop-i.invariant ∙ ap has_dash (symbols_at p i blank c.loop-i-test.true) ∙ has_dash-append here rest ∙ ap (λ (b : Bool). b || has_dash rest) (sym c.is_minus_run.ensures ∙ c.if-is_minus_run.true))

pub loop-i-preserved : goal.loop-i-preserved
loop-i-preserved c =
    let p = c.args.picture.now in
    let i = c.loop-i.i in
    let blank : Run = record { symbol = 0; count = 0 } in
    let run = get_or p i blank in
    let here = replicate run.count (symbol_of run.symbol) in
    let rest = symbols (drop (i + 1) p) in
    sym (sym c.loop-i.invariant ∙ ap has_dash (symbols_at p i blank c.loop-i-test.true) ∙ has_dash-append here rest ∙ ap (λ (b : Bool). b || has_dash rest) (sym c.is_minus_run.ensures ∙ c.if-is_minus_run.false))
