use Rattle.std.proofs.Common.{◌≡◌, ◌+◌, cond, drop, get_or, arith}
use Rattle.program_meaning.specs.Kind.{symbol_of, digits_shown}
use Rattle.number_bytes.specs.Stored.{symbols}
use Rattle.number_bytes.specs.Editing.{shows_digit}
use Rattle.storage_start.proofs.Fraction.{blank, shown-at}
use Rattle.storage_start.proofs.scale.shown_digits.Goals as goal

pub returns-then-more-digits-clause-none : goal.returns-then-more-digits-clause-none
returns-then-more-digits-clause-none c =
    let p = c.args.picture.now in
    let i = c.loop-i.i in
    let here : digits_shown (symbols (drop i p)) ≡ cond (shows_digit (symbol_of (get_or p i blank).symbol)) (get_or p i blank).count 0 + digits_shown (symbols (drop (i + 1) p)) = shown-at p i c.loop-i-test.true in
    omega arith

pub loop-i-preserved : goal.loop-i-preserved
loop-i-preserved c =
    let p = c.args.picture.now in
    let i = c.loop-i.i in
    let here : digits_shown (symbols (drop i p)) ≡ cond (shows_digit (symbol_of (get_or p i blank).symbol)) (get_or p i blank).count 0 + digits_shown (symbols (drop (i + 1) p)) = shown-at p i c.loop-i-test.true in
    record { so_far = omega arith; few = omega arith }
