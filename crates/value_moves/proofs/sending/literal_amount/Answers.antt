use Rattle.std.proofs.Common.{refl}
use Rattle.std.specs.Prelude.{unsigned_abs}
use Rattle.program_meaning.specs.Moves as meant
use Rattle.value_moves.proofs.LiteralLaws.{all_digits-decimal, literal-exact}
use Rattle.value_moves.proofs.sending.literal_amount.Goals as goal

pub returns : goal.returns
returns c =
    let v = c.args.number.number in
    let scale = c.args.number.scale in
    let digits = c.args.digits in
    record {
      meant = meant.Amount (meant.literal_number v scale digits);
      gives = refl;
      same = record {
        decimal = meant.literal_number v scale digits;
        is = refl;
        exactly = record {
          digits = all_digits-decimal digits (unsigned_abs v);
          number = literal-exact v scale digits c.requires.fits;
        };
      };
    }
