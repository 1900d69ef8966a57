use Rattle.std.specs.Int.{w128}
use Rattle.std.proofs.Common.{ℕ, ℤ, SFits, ◌≡◌, ◌-◌, ◌*◌, ◌/◌, ◌^◌, cond, leb, ap, sym, ◌∙◌, rules}
use Rattle.std.specs.Prelude.{unsigned_abs, int_lt, pos}
use Rattle.std.proofs.lemmas.Int.{to_z-of_z}
use Rattle.program_meaning.specs.Number.{with_sign}
use Rattle.program_meaning.specs.Arithmetic.{result_bytes}
use Rattle.number_bytes.specs.Held.{read_scaled}
use Rattle.number_bytes.specs.Stored.{moved_value}
use Rattle.number_bytes.proofs.StoreLaws.{stored_number-is, literal-exact}
use Rattle.number_bytes.proofs.DigitLaws.{all_digits-decimal}
use Rattle.program_meaning.specs.Moves.{literal_number}
use Rattle.number_bytes.proofs.storing.at_point.Goals as goal

pub returns-clause-stored : goal.returns-clause-stored
returns-clause-stored c = λ k d at exactly.
    let fits : SFits w128 c.signed.result = search rules in
    let number = c.args.number.number in
    let from = c.args.number.scale in
    let to = c.args.scale in
    let same = to_z-of_z w128 number (search rules) in
    let magnitude = c.unsigned_abs.ensures.value ∙ ap unsigned_abs same in
    let value : c.signed.result ≡ moved_value to (read_scaled c.args.number) =
    c.signed.ensures
    ∙ ap (λ (z : ℤ). with_sign (int_lt z (pos 0)) c.moved-magnitude.result) same
    ∙ ap (with_sign (int_lt number (pos 0))) (c.moved-magnitude.ensures.value ∙ ap (λ (m : ℕ). cond (leb from to) (m * 10 ^ (to - from)) (m / 10 ^ (from - to))) magnitude) in
    stored_number-is k d (read_scaled c.args.number) to at exactly.digits exactly.number
    ∙ ap (λ (z : ℤ). result_bytes k z) (sym value ∙ sym (to_z-of_z w128 c.signed.result fits))

pub returns-clause-literal : goal.returns-clause-literal
returns-clause-literal c = λ k digits at small.
    let fits : SFits w128 c.signed.result = search rules in
    let number = c.args.number.number in
    let from = c.args.number.scale in
    let to = c.args.scale in
    let same = to_z-of_z w128 number (search rules) in
    let magnitude = c.unsigned_abs.ensures.value ∙ ap unsigned_abs same in
    let value : c.signed.result ≡ moved_value to (read_scaled c.args.number) =
    c.signed.ensures
    ∙ ap (λ (z : ℤ). with_sign (int_lt z (pos 0)) c.moved-magnitude.result) same
    ∙ ap (with_sign (int_lt number (pos 0))) (c.moved-magnitude.ensures.value ∙ ap (λ (m : ℕ). cond (leb from to) (m * 10 ^ (to - from)) (m / 10 ^ (from - to))) magnitude) in
    stored_number-is k (literal_number number from digits) (read_scaled c.args.number) to at (all_digits-decimal digits (unsigned_abs number)) (literal-exact number from digits small)
    ∙ ap (λ (z : ℤ). result_bytes k z) (sym value ∙ sym (to_z-of_z w128 c.signed.result fits))
