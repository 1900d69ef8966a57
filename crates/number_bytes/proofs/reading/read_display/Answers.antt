use Rattle.std.proofs.Common.{refl}
use Rattle.number_bytes.proofs.Agreement.{none_from, number_from, held_from, small_from}
use Rattle.number_bytes.proofs.DisplayLaws.{display_agrees}
use Rattle.number_bytes.proofs.reading.read_display.Goals as goal

pub returns-in-Ok-clause-held : goal.returns-in-Ok-clause-held
returns-in-Ok-clause-held c =
    let form = c.args.form in
    let agrees = display_agrees form.digits form.scale form.signed form.sign c.args.bytes.now c.requires.some_digits c.requires.at_most_18 c.requires.length in
    let there = number_from _ _ _ _ agrees c.in-Ok.ensures.value in
    held_from _ form.scale _ _ there refl c.in-Ok.ensures.scale

pub returns-in-Ok-clause-small : goal.returns-in-Ok-clause-small
returns-in-Ok-clause-small c =
    let form = c.args.form in
    let agrees = display_agrees form.digits form.scale form.signed form.sign c.args.bytes.now c.requires.some_digits c.requires.at_most_18 c.requires.length in
    small_from _ form.scale _ (number_from _ _ _ _ agrees c.in-Ok.ensures.value)

pub returns-in-Err-clause-bad : goal.returns-in-Err-clause-bad
returns-in-Err-clause-bad c =
    let form = c.args.form in
    let agrees = display_agrees form.digits form.scale form.signed form.sign c.args.bytes.now c.requires.some_digits c.requires.at_most_18 c.requires.length in
    none_from _ form.scale _ agrees (c.in-Err.ensures.bad.0 refl)
