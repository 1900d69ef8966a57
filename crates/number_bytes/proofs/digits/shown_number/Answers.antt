use Rattle.std.specs.Int.{w128}
use Rattle.std.proofs.Common.{ℤ, ap, ◌∙◌}
use Rattle.std.proofs.lemmas.Int.{to_z-of_z}
use Rattle.number_bytes.specs.Stored.{shown}
use Rattle.number_bytes.proofs.StoreLaws.{shown-is}
use Rattle.number_bytes.proofs.digits.shown_number.Goals as goal

pub returns-in-Ok-clause-meant : goal.returns-in-Ok-clause-meant
returns-in-Ok-clause-meant c = λ form d count good same.
    c.in-Ok.ensures ∙ ap (λ (z : ℤ). shown z c.args.digits) (to_z-of_z w128 c.args.number c.ranges.number) ∙ shown-is form d c.args.number c.args.digits count good same
