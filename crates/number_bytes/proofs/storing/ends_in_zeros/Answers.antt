use Rattle.std.proofs.Common.{◌^◌, ◌<◌, ◌≤◌, ◌==◌, ap, sym, arith}
use Rattle.std.proofs.Math.Nat.{pow-le-pow_right, mod-eq_of_lt}
use Rattle.number_bytes.proofs.storing.ends_in_zeros.Goals as goal

pub returns-then-digits-gt38 : goal.returns-then-digits-gt38
returns-then-digits-gt38 c =
    let over : 39 ≤ c.args.digits = omega arith in
    let power : 10 ^ 39 ≤ 10 ^ c.args.digits = pow-le-pow_right {n = 10} (omega arith) {i = 39} {j = c.args.digits} over in
    let small : c.args.magnitude < 10 ^ c.args.digits = omega arith in
    ap (λ m. m == 0) (sym (mod-eq_of_lt small))
