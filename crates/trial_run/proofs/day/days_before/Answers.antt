use Rattle.std.proofs.Common.{arith, ◌≤◌}
use Rattle.trial_run.proofs.Months.{whole-year}
use Rattle.trial_run.proofs.day.days_before.Goals as goal

pub returns-in_default-clause-sum : goal.returns-in_default-clause-sum
returns-in_default-clause-sum c =
    let most : 12 ≤ c.args.months = omega (arith, c.in_default) in
    omega (arith, c.february-in_default.ensures, whole-year c.args.months c.args.leap most)
