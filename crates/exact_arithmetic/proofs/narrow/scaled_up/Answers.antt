use Rattle.std.specs.Int.{w128}
use Rattle.std.proofs.Common.{ℤ, ap, sym, arith, of_z}
use Rattle.exact_arithmetic.proofs.NarrowLaws.{scaled_up_wide}
use Rattle.exact_arithmetic.proofs.narrow.scaled_up.Goals as goal

pub returns-then-digits-gt38 : goal.returns-then-digits-gt38
returns-then-digits-gt38 c =
    sym (scaled_up_wide c.args.number c.args.digits (λ none. c.if-number-eq0.false (ap (λ (z : ℤ). of_z w128 z) none)) (omega arith))
