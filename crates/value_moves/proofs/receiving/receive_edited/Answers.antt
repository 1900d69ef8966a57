use Rattle.std.specs.Int.{w128}
use Rattle.std.proofs.Common.{ℤ, SFits, length, ap, sym, subst, ◌∙◌, rules}
use Rattle.std.proofs.lemmas.Int.{to_z-of_z}
use Rattle.program_meaning.specs.Kind as kind
use Rattle.program_meaning.specs.Moves.{received}
use Rattle.program_meaning.specs.Arithmetic.{result_bytes}
use Rattle.number_bytes.specs.Stored.{symbols}
use Rattle.value_moves.specs.Given.{IsSent}
use Rattle.value_moves.specs.declared.sent.Sent.{Sent}
use Rattle.value_moves.proofs.receiving.receive_edited.Goals as goal

pub returns-in-Amount : goal.returns-in-Amount
returns-in-Amount c = λ m given.
    let h = subst (λ (s : Sent). IsSent s m) c.in-Amount.is given in
    let k = kind.Edited (symbols c.args.picture.now) in
    let fits : SFits w128 c.at_point.result = search rules in
    c.store_edited.ensures
    ∙ ap (λ (z : ℤ). result_bytes k z) (to_z-of_z w128 c.at_point.result fits)
    ∙ sym (c.at_point.ensures.stored k h.decimal (sym c.requires.scale) h.exactly)
    ∙ sym (ap (received k (length c.args.into.now)) h.is)
