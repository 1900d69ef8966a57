use Rattle.std.specs.Int.{w128}
use Rattle.std.proofs.Common.{ℤ, ◌&&◌, Some, ap, ◌∙◌}
use Rattle.std.specs.Prelude.{int_lt, pos}
use Rattle.std.proofs.lemmas.Int.{to_z-of_z}
use Rattle.decimal_bytes.specs.Signed.{kept}
use Rattle.number_bytes.proofs.WrittenLaws.{display_written}
use Rattle.number_bytes.proofs.storing.write_display.Goals as goal

pub returns : goal.returns
returns c =
    let form = c.args.form in
    let v = c.args.number in
    let same = to_z-of_z w128 c.args.number c.ranges.number in
    display_written form.digits form.scale form.signed form.sign c.put_display.new.into v c.requires.some_digits
    (c.put_display.auto.into ∙ c.requires.length)
    (c.put_display.ensures.value ∙ ap (λ (z : ℤ). Some (kept form z)) same)
    (c.put_display.ensures.sign ∙ ap (λ (z : ℤ). Some (form.signed && int_lt z (pos 0))) same)
