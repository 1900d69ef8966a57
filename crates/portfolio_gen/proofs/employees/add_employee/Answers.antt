use Rattle.std.proofs.Common.{◌%◌}
use Rattle.std.specs.Prelude.{codes}
use Rattle.portfolio_gen.specs.Digits.{digits}
use Rattle.portfolio_gen.specs.Employees.{date}
use Rattle.portfolio_gen.proofs.Records.{three_appended}
use Rattle.portfolio_gen.proofs.employees.add_employee.Goals as goal

pub returns : goal.returns
returns c =
    three_appended _ _ _ _ (digits 6 (c.args.number % 1000000)) (date c.args.t) (codes "EMPLOYEE")
    c.in_ok-add_six.ensures c.in_ok-add_date.ensures c.in_ok-append.ensures.ok
