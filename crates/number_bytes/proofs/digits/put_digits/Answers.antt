use Rattle.std.specs.Int.{w128}
use Rattle.std.proofs.Common.{ℕ, ap, sym, ◌∙◌, length}
use Rattle.std.specs.Prelude.{unsigned_abs}
use Rattle.std.proofs.lemmas.Int.{to_z-of_z}
use Rattle.byte_lists.specs.Digit.{number, decimal, codes}
use Rattle.number_bytes.proofs.Agreement.{unsigned_abs-with_sign}
use Rattle.number_bytes.proofs.StoreLaws.{aligned-is}
use Rattle.number_bytes.proofs.digits.put_digits.Goals as goal

pub returns-clause-aligned : goal.returns-clause-aligned
returns-clause-aligned c = λ d good same.
    let n : ℕ = length c.args.into.now in
    let written = c.put_magnitude.ensures in
    let passed = to_z-of_z w128 c.args.number c.ranges.number in
    written ∙ ap (λ (m : ℕ). codes (decimal n m)) (c.unsigned_abs.ensures.value ∙ ap unsigned_abs passed ∙ sym (sym (unsigned_abs-with_sign d.minus (number d.digits)) ∙ ap unsigned_abs same))
    ∙ ap codes (sym (aligned-is n d.digits good))
