use Rattle.std.specs.Int.{w128}
use Rattle.std.proofs.Common.{SFits, refl, sym, ap, ◌∙◌, rules, Option}
use Rattle.std.proofs.lemmas.Int.{to_z-of_z}
use Rattle.program_meaning.specs.Answer.{Gives, Data, and_then, or_fault}
use Rattle.program_meaning.specs.Arithmetic as exact
use Rattle.program_meaning.specs.Moves as meant
use Rattle.program_meaning.specs.Number.{Decimal}
use Rattle.number_bytes.specs.Held.{read_form}
use Rattle.storage_moves.proofs.showing.show_value.Goals as goal

pub returns-in-Ok-shown_number-clause-ok : goal.returns-in-Ok-shown_number-clause-ok
returns-in-Ok-shown_number-clause-ok c =
    let h = c.in-Ok.ensures.held in
    let form = read_form c.args.form in
    let fits : SFits w128 c.in-Ok.number.number = search rules in
    let value = ap (λ (s : exact.Scaled). s.number) h.exactly.number ∙ sym (to_z-of_z w128 c.in-Ok.number.number fits) in
    ap (λ (o : Option Decimal). and_then (or_fault Data o) (λ (d : Decimal). Gives (meant.shown_number form d))) h.is
    ∙ ap Gives (sym (c.in-Ok-shown_number.ensures.meant form h.decimal refl h.exactly.digits value))
