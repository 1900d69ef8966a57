use Rattle.std.specs.Int.{w128}
use Rattle.std.proofs.Common.{ℤ, Some, ap, ◌∙◌}
use Rattle.std.proofs.lemmas.Int.{to_z-of_z}
use Rattle.decimal_bytes.specs.Signed.{kept}
use Rattle.decimal_bytes.specs.Packed.{written_code}
use Rattle.number_bytes.proofs.WrittenLaws.{packed_written}
use Rattle.number_bytes.proofs.storing.write_packed.Goals as goal

pub returns : goal.returns
returns c =
    let form = c.args.form in
    let same = to_z-of_z w128 c.args.number c.ranges.number in
    packed_written form c.put_packed.new.into c.args.number c.requires.at_most_18
    (c.put_packed.auto.into ∙ c.requires.length)
    (c.put_packed.ensures.value ∙ ap (λ (z : ℤ). Some (kept form z)) same)
    (c.put_packed.ensures.sign ∙ ap (λ (z : ℤ). written_code form z) same)
