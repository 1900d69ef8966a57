use Rattle.std.proofs.Common.{◌≡◌, ◌+◌, List, ◌++◌, cond, length, take, drop, get_or, replicate, ap, sym, ◌∙◌, arith}
use Rattle.y2k_base.specs.declared.picture.Run.{Run}
use Rattle.program_meaning.specs.Kind.{Symbol, symbol_of, digits_shown}
use Rattle.number_bytes.specs.Stored.{symbols}
use Rattle.number_bytes.specs.Editing.{shows_digit, still_shown}
use Rattle.number_bytes.proofs.EditLaws.{symbols_at, digits_shown-run, length-run}
use Rattle.number_bytes.proofs.editing.store_edited.Goals as goal

pub edit_run-editing-requires-clause-digits : goal.edit_run-editing-requires-clause-digits
edit_run-editing-requires-clause-digits c =
    let p = c.args.picture.now in
    let i = c.loop-i.i in
    let blank : Run = record { symbol = 0; count = 0 } in
    let run = get_or p i blank in
    let rest = symbols (drop (i + 1) p) in
    let here : digits_shown (symbols (drop i p)) ≡ cond (shows_digit (symbol_of run.symbol)) run.count 0 + digits_shown rest = ap digits_shown (symbols_at p i blank c.loop-i-test.true) ∙ digits_shown-run run.count (symbol_of run.symbol) rest in
    let left = c.loop-i.invariant.1 in
    omega arith

pub loop-i-preserved : goal.loop-i-preserved
loop-i-preserved c =
    let p = c.args.picture.now in
    let loop = c.loop-i in
    let i = loop.i in
    let blank : Run = record { symbol = 0; count = 0 } in
    let run = get_or p i blank in
    let s : Symbol = symbol_of run.symbol in
    let rest = symbols (drop (i + 1) p) in
    let here : symbols (drop i p) ≡ replicate run.count s ++ rest = symbols_at p i blank c.loop-i-test.true in
    let digits : digits_shown (symbols (drop i p)) ≡ cond (shows_digit s) run.count 0 + digits_shown rest = ap digits_shown here ∙ digits_shown-run run.count s rest in
    let places : length (symbols (drop i p)) ≡ run.count + length rest = ap (λ (xs : List Symbol). length xs) here ∙ length-run run.count s rest in
    let left = loop.invariant.1 in
    let room = loop.invariant.2 in
    let taken = c.edit_run-editing.ensures.left in
    let same = c.edit_run-editing.ensures.length in (
      c.edit_run-editing.ensures.shown rest ∙ ap (λ (ss : List Symbol). take loop.at loop.into ++ still_shown loop.editing ss) (sym here) ∙ loop.invariant.0,
      omega arith,
      omega arith,
    )
