use Rattle.std.proofs.Common.{arith}
use Rattle.std.proofs.Math.Nat.{pow-le-pow_right}
use Rattle.window_dates.proofs.literal.power_of_ten.Goals as goal

pub pow-requires : goal.pow-requires
pow-requires c =
    omega (arith, pow-le-pow_right {n = 10} (omega arith) {i = c.from.result} {j = 18} (omega arith))
