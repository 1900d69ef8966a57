use Rattle.std.specs.Int.{w128}
use Rattle.std.proofs.Common.{◌≡◌, ℤ, Bool, ◌&&◌, ◌||◌, of_z, to_z, ap, sym, ◌∙◌, false}
use Rattle.std.proofs.lemmas.Bool.{cond-false}
use Rattle.std.proofs.lemmas.Int.{to_z-of_z}
use Rattle.program_meaning.specs.Answer.{Answer, Gives, and_then}
use Rattle.program_meaning.specs.Arithmetic as exact
use Rattle.program_meaning.specs.Number.{NumForm}
use Rattle.number_bytes.specs.Held.{read_form, read_scaled}
use Rattle.exact_arithmetic.proofs.outcome.after_quotient.Goals as goal

-- the outcome of a result and a remainder
abbrev with_rest : NumForm → Bool → ℤ → Answer exact.Scaled → Answer exact.Outcome
with_rest form error n rest = and_then rest (λ r. and_then (exact.at_scale false form.scale r) (λ m. Gives (exact.outcome (error || exact.too_big form m) n m)))

pub returns-else-both : goal.returns-else-both
returns-else-both c = λ layout store.
    let form = read_form c.args.form in
    let rest_form = read_form c.args.rest_form in
    let number = c.args.number in
    let remainder = exact.remainder layout store form (read_scaled c.args.dividend) (read_scaled c.args.divisor) (read_scaled c.args.quotient) in
    let same = to_z-of_z w128 number c.ranges.number in
    let error = c.too_big-is_error.ensures ∙ ap (λ (z : ℤ). exact.too_big form z) same in
    let not_ended : (exact.too_big form number && c.args.phrase) ≡ false = ap (λ (e : Bool). e && c.args.phrase) (sym error) ∙ sym c.both.ensures ∙ c.if-both.false in
    c.rest_outcome.ensures
    ∙ ap (with_rest rest_form c.too_big-is_error.result (to_z w128 (of_z w128 number))) (c.remainder-rest.ensures layout store)
    ∙ ap (λ (z : ℤ). with_rest rest_form c.too_big-is_error.result z remainder) same
    ∙ ap (λ (e : Bool). with_rest rest_form e number remainder) error
    ∙ sym (cond-false (exact.too_big form number && c.args.phrase) _ _ not_ended)
