use Rattle.std.proofs.Common.{arith}
use Rattle.number_bytes.proofs.Agreement.{held_from, small_from}
use Rattle.number_bytes.proofs.BinaryLaws.{binary_agrees}
use Rattle.number_bytes.proofs.reading.read_binary.Goals as goal

pub returns-clause-held : goal.returns-clause-held
returns-clause-held c =
    let form = c.args.form in
    let there = binary_agrees form c.args.bytes.now c.requires.at_most_18 c.requires.length (λ k. omega (arith, c.type_inv.bytes k)) in
    held_from _ form.scale _ _ there c.get_binary.ensures.value c.get_binary.ensures.scale

pub returns-clause-small : goal.returns-clause-small
returns-clause-small c =
    let form = c.args.form in
    let there = binary_agrees form c.args.bytes.now c.requires.at_most_18 c.requires.length (λ k. omega (arith, c.type_inv.bytes k)) in
    let small = small_from _ form.scale _ there in
    let same = c.get_binary.ensures.value in
    rw same small
