use Rattle.std.specs.Int.{w128}
use Rattle.std.proofs.Common.{ℕ, ℤ, Bool, false, ◌%◌, ◌^◌, ◌==◌, ◌&&◌, not, ap, sym, ◌∙◌}
use Rattle.std.specs.Prelude.{unsigned_abs}
use Rattle.std.proofs.lemmas.Int.{to_z-of_z}
use Rattle.byte_lists.specs.Digit.{decimal}
use Rattle.program_meaning.specs.Number.{is_minus}
use Rattle.program_meaning.specs.Kind.{digits_shown, has_dash}
use Rattle.program_meaning.specs.Moves.{edited}
use Rattle.number_bytes.specs.Stored.{symbols}
use Rattle.number_bytes.proofs.EditLaws.{edited-is}
use Rattle.number_bytes.proofs.editing.started.Goals as goal

pub returns-clause-shown : goal.returns-clause-shown
returns-clause-shown c =
    let picture = symbols c.args.picture.now in
    let v = c.args.number in
    let same = to_z-of_z w128 v c.ranges.number in
    let digits = c.shown_digits-left.ensures in
    let size = c.unsigned_abs.ensures.value ∙ ap unsigned_abs same in
    let minus = c.kept_minus.ensures ∙ ap (λ (z : ℤ). has_dash picture && (is_minus z && not (unsigned_abs z % 10 ^ c.shown_digits-left.result == 0))) same ∙ ap (λ (n : ℕ). has_dash picture && (is_minus v && not (unsigned_abs v % 10 ^ n == 0))) digits in
    edited-is picture v
    ∙ ap (λ (b : Bool). edited b false picture (decimal (digits_shown picture) (unsigned_abs v))) (sym minus)
    ∙ ap (λ (n : ℕ). edited c.kept_minus.result false picture (decimal n (unsigned_abs v))) (sym digits)
    ∙ ap (λ (m : ℕ). edited c.kept_minus.result false picture (decimal c.shown_digits-left.result m)) (sym size)
