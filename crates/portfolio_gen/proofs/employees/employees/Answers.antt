use Rattle.std.proofs.Common.{length, sym, ap, ◌∙◌, subst}
use Rattle.portfolio_gen.specs.Digits.{HaveDigits}
use Rattle.portfolio_gen.proofs.Records.{employees_length, employees_digits}
use Rattle.portfolio_gen.proofs.employees.employees.Goals as goal

pub returns : goal.returns
returns c = record {
  records = c.in_ok-bytes.ensures;
  length = ap length c.in_ok-bytes.ensures ∙ employees_length c.args.count;
  digits = subst (HaveDigits c.args.count) (sym c.in_ok-bytes.ensures) (employees_digits c.args.count);
}
