use Rattle.std.specs.Int.{w128}
use Rattle.std.proofs.Common.{ℤ, ap, ◌∙◌, arith}
use Rattle.std.proofs.lemmas.Int.{to_z-of_z}
use Rattle.decimal_bytes.specs.Signed.{kept}
use Rattle.number_bytes.proofs.WrittenLaws.{binary_written}
use Rattle.number_bytes.proofs.storing.write_binary.Goals as goal

pub returns : goal.returns
returns c =
    let form = c.args.form in
    let same = to_z-of_z w128 c.args.number c.ranges.number in
    binary_written form c.put_binary.new.into c.args.number
    (c.put_binary.auto.into ∙ c.requires.length)
    (λ k. omega (arith, c.type_inv.into k))
    c.requires.fits
    (c.put_binary.ensures ∙ ap (λ (z : ℤ). kept form z) same)
