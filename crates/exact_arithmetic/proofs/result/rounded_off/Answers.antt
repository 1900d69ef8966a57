use Rattle.std.proofs.Common.{◌+◌, ◌/◌, ◌^◌, ◌<◌, ◌≤◌, sym, arith}
use Rattle.std.proofs.Math.Nat.{div-eq_of_lt}
use Rattle.std.proofs.lemmas.Nat.{div_below}
use Rattle.exact_arithmetic.proofs.NarrowLaws.{ten_at_least, power_past_38}
use Rattle.exact_arithmetic.proofs.result.rounded_off.Goals as goal

pub returns-then-digits-gt38-clause-value : goal.returns-then-digits-gt38-clause-value
returns-then-digits-gt38-clause-value c =
    let power = power_past_38 c.args.digits (omega arith) in
    let small : c.args.magnitude + 10 ^ c.args.digits / 2 < 10 ^ c.args.digits = omega arith in
    sym (div-eq_of_lt small)

pub returns-clause-small : goal.returns-clause-small
returns-clause-small c =
    let ten : 10 ≤ c.power_of_ten-power.result = omega (arith, ten_at_least c.from.result (omega arith)) in
    div_below (c.args.magnitude + c.power_of_ten-power.result / 2) c.power_of_ten-power.result (2 ^ 127) (omega arith) (omega arith)
