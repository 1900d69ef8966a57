use Rattle.std.specs.Int.{w128}
use Rattle.std.proofs.Common.{ℤ, SFits, ◌&&◌, ap, sym, ◌∙◌, rules}
use Rattle.std.specs.Prelude.{unsigned_abs}
use Rattle.std.proofs.lemmas.Int.{to_z-of_z}
use Rattle.cobol_syntax.specs.declared.program.Usage.{Usage}
use Rattle.byte_lists.specs.Digit.{decimal}
use Rattle.program_meaning.specs.Number as meant
use Rattle.program_meaning.specs.Number.{is_minus, number_bytes}
use Rattle.program_meaning.specs.Kind as kind
use Rattle.program_meaning.specs.Arithmetic.{stored_value}
use Rattle.tree_reading.specs.Reading.{read_usage}
use Rattle.number_bytes.specs.Held.{read_form}
use Rattle.number_bytes.proofs.StoreLaws.{result_bytes-kept}
use Rattle.number_bytes.proofs.storing.store_number.Goals as goal

pub returns-in-Display : goal.returns-in-Display
returns-in-Display c =
    let form = c.args.form in
    let number = c.args.number in
    let fits : SFits w128 c.stored_value-stored.result = search rules in
    let stored = to_z-of_z w128 c.stored_value-stored.result fits ∙ c.stored_value-stored.ensures.value ∙ ap (λ (z : ℤ). stored_value (read_form form) z) (to_z-of_z w128 number c.ranges.number) in
    c.write_display.ensures
    ∙ ap (λ (z : ℤ). number_bytes meant.Display (read_form form) (form.signed && is_minus z) (decimal form.digits (unsigned_abs z))) stored
    ∙ ap (λ (u : Usage). number_bytes (read_usage u) (read_form form) (form.signed && is_minus (stored_value (read_form form) number)) (decimal form.digits (unsigned_abs (stored_value (read_form form) number)))) (sym c.in-Display.is)
    ∙ sym (result_bytes-kept (kind.Number (read_usage c.args.usage) (read_form form)) number)

pub returns-in-Packed : goal.returns-in-Packed
returns-in-Packed c =
    let form = c.args.form in
    let number = c.args.number in
    let fits : SFits w128 c.stored_value-stored.result = search rules in
    let stored = to_z-of_z w128 c.stored_value-stored.result fits ∙ c.stored_value-stored.ensures.value ∙ ap (λ (z : ℤ). stored_value (read_form form) z) (to_z-of_z w128 number c.ranges.number) in
    c.write_packed.ensures
    ∙ ap (λ (z : ℤ). number_bytes meant.Packed (read_form form) (form.signed && is_minus z) (decimal form.digits (unsigned_abs z))) stored
    ∙ ap (λ (u : Usage). number_bytes (read_usage u) (read_form form) (form.signed && is_minus (stored_value (read_form form) number)) (decimal form.digits (unsigned_abs (stored_value (read_form form) number)))) (sym c.in-Packed.is)
    ∙ sym (result_bytes-kept (kind.Number (read_usage c.args.usage) (read_form form)) number)

pub returns-in-Binary : goal.returns-in-Binary
returns-in-Binary c =
    let form = c.args.form in
    let number = c.args.number in
    let fits : SFits w128 c.stored_value-stored.result = search rules in
    let stored = to_z-of_z w128 c.stored_value-stored.result fits ∙ c.stored_value-stored.ensures.value ∙ ap (λ (z : ℤ). stored_value (read_form form) z) (to_z-of_z w128 number c.ranges.number) in
    c.write_binary.ensures
    ∙ ap (λ (z : ℤ). number_bytes meant.Binary (read_form form) (form.signed && is_minus z) (decimal form.digits (unsigned_abs z))) stored
    ∙ ap (λ (u : Usage). number_bytes (read_usage u) (read_form form) (form.signed && is_minus (stored_value (read_form form) number)) (decimal form.digits (unsigned_abs (stored_value (read_form form) number)))) (sym c.in-Binary.is)
    ∙ sym (result_bytes-kept (kind.Number (read_usage c.args.usage) (read_form form)) number)
