use Rattle.std.proofs.Common.{ℕ, sym, subst}
use Rattle.seed_file.specs.Rows.{IsDigitRead}
use Rattle.seed_file.proofs.Shape.{digit_read, unparsed}
use Rattle.seed_file.proofs.row.digit_of_text.Goals as goal

pub returns-in-Err : goal.returns-in-Err
returns-in-Err c = unparsed c.args.text.now c.in-Err.field-0 c.in-Err.ensures.value.0

pub returns-in-Ok-is_written : goal.returns-in-Ok-is_written
returns-in-Ok-is_written c =
    subst (IsDigitRead c.args.text.now) (sym c.digit_if.ensures)
    (digit_read ℕ c.args.text.now c.in-Ok.number c.in-Ok.ensures.value.0 c.in-Ok-is_written.is_written c.in-Ok-is_written.ensures)
