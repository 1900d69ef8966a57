use Rattle.std.proofs.Common.{◌-◌, ◌*◌, ◌^◌, ◌≤◌, arith}
use Rattle.std.proofs.Math.Nat.{pow-le-pow_right, mul-le-mul_left}
use Rattle.number_bytes.proofs.storing.moved.Goals as goal

pub returns-then-from-to-clause-small : goal.returns-then-from-to-clause-small
returns-then-from-to-clause-small c =
    let power : c.power_of_ten.result ≤ 10 ^ 18 = omega (arith, pow-le-pow_right {n = 10} (omega arith) {i = c.args.to - c.args.from} {j = 18} (omega arith)) in
    let most : c.args.magnitude * c.power_of_ten.result ≤ c.args.magnitude * 10 ^ 18 = mul-le-mul_left c.args.magnitude power in
    omega arith
