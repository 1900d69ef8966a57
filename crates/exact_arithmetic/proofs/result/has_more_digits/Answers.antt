use Rattle.std.proofs.Common.{◌^◌, ◌<◌, sym, arith}
use Rattle.std.proofs.lemmas.Bool.{lt-leb}
use Rattle.exact_arithmetic.proofs.NarrowLaws.{power_past_38}
use Rattle.exact_arithmetic.proofs.result.has_more_digits.Goals as goal

pub returns-then-digits-gt38 : goal.returns-then-digits-gt38
returns-then-digits-gt38 c =
    let power = power_past_38 c.args.digits (omega arith) in
    let small : c.args.magnitude < 10 ^ c.args.digits = omega arith in
    sym (lt-leb (10 ^ c.args.digits) c.args.magnitude small)
