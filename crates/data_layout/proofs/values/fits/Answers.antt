use Rattle.std.proofs.Common.{◌-◌, arith}
use Rattle.std.proofs.Math.Nat.{one-le-pow}
use Rattle.data_layout.proofs.values.fits.Goals as goal

pub is_cut_within-requires : goal.is_cut_within-requires
is_cut_within-requires c = λ none. omega (arith, none, c.in_ok-cut.ensures, one-le-pow (c.args.scale - c.args.after) 10 (omega arith))
