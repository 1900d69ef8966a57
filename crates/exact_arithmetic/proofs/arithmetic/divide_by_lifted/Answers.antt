use Rattle.std.specs.Int.{w128}
use Rattle.std.proofs.Common.{ℤ, SFits, ◌^◌, ap, sym, ◌∙◌, rules}
use Rattle.std.specs.Prelude.{pos, ◌*ℤ◌}
use Rattle.std.proofs.lemmas.Int.{to_z-of_z}
use Rattle.program_meaning.specs.Arithmetic.{narrow}
use Rattle.exact_arithmetic.proofs.NarrowLaws.{scaled_up_some}
use Rattle.exact_arithmetic.proofs.arithmetic.divide_by_lifted.Goals as goal

pub quotient-requires : goal.quotient-requires
quotient-requires c = λ none.
    let fits : SFits w128 c.in-Ok.lifted = search rules in
    let given = c.in-Ok.ensures ∙ ap (λ (z : ℤ). narrow (z *ℤ pos (10 ^ c.args.digits))) (to_z-of_z w128 c.args.divisor c.ranges.divisor) in
    scaled_up_some c.args.divisor c.in-Ok.lifted c.args.digits c.requires given (sym (to_z-of_z w128 c.in-Ok.lifted fits) ∙ none)
