use Rattle.std.proofs.Common.{arith}
use Rattle.std.proofs.Math.Nat.{pow-le-pow_right}
use Rattle.std.proofs.lemmas.Nat.{mod_below}
use Rattle.number_bytes.proofs.storing.stored_value.Goals as goal

pub signed-requires : goal.signed-requires
signed-requires c =
    omega (arith, pow-le-pow_right {n = 10} (omega arith) {i = c.args.form.digits} {j = 18} c.requires.at_most_18, mod_below c.unsigned_abs.result c.power_of_ten.result c.power_of_ten.ensures.positive)
