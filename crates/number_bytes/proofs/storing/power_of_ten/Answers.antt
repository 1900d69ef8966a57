use Rattle.std.proofs.Common.{arith}
use Rattle.std.proofs.Math.Nat.{pow-le-pow_right}
use Rattle.number_bytes.proofs.DigitLaws.{ten_pos}
use Rattle.number_bytes.proofs.storing.power_of_ten.Goals as goal

pub pow-requires : goal.pow-requires
pow-requires c =
    omega (arith, pow-le-pow_right {n = 10} (omega arith) {i = c.from.result} {j = 38} (omega arith))

pub returns-clause-positive : goal.returns-clause-positive
returns-clause-positive c = omega (arith, ten_pos c.from.result)
