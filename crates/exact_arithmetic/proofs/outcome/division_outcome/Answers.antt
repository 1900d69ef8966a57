use Rattle.std.specs.Int.{w128}
use Rattle.std.proofs.Common.{ℤ, SFits, ap, ◌∙◌, rules}
use Rattle.std.proofs.lemmas.Int.{to_z-of_z}
use Rattle.program_meaning.specs.Answer.{Answer, and_then}
use Rattle.program_meaning.specs.Arithmetic as exact
use Rattle.number_bytes.specs.Held.{read_form, read_scaled}
use Rattle.exact_arithmetic.proofs.outcome.division_outcome.Goals as goal

pub returns-in-Ok-at_scale : goal.returns-in-Ok-at_scale
returns-in-Ok-at_scale c = λ layout store.
    let form = read_form c.args.form in
    let rest_form = read_form c.args.rest_form in
    let dividend = read_scaled c.args.dividend in
    let divisor = read_scaled c.args.divisor in
    let quotient = read_scaled c.in-Ok.quotient in
    let fits : SFits w128 c.in-Ok-at_scale.result = search rules in
    c.after_quotient.ensures layout store
    ∙ ap (λ (n : ℤ). exact.rest_outcome layout store form rest_form c.args.phrase n dividend divisor quotient) (to_z-of_z w128 c.in-Ok-at_scale.result fits)
    ∙ ap (λ (x : Answer ℤ). and_then {B = exact.Outcome} x (λ n. exact.rest_outcome layout store form rest_form c.args.phrase n dividend divisor quotient)) c.in-Ok-at_scale.ensures
    ∙ ap (λ (x : Answer exact.Scaled). and_then {B = exact.Outcome} x (λ q. and_then {B = exact.Outcome} (exact.at_scale c.args.rounded form.scale q) (λ n. exact.rest_outcome layout store form rest_form c.args.phrase n dividend divisor q))) c.in-Ok.ensures
