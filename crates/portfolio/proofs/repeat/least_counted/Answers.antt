use Rattle.std.proofs.Common.{◌≡◌, Some, None, rules}
use Rattle.portfolio.proofs.Counts.{first_twice, none_twice, found_twice}
use Rattle.portfolio.proofs.repeat.least_counted.Goals as goal

pub returns-then-count-ge2 : goal.returns-then-count-ge2
returns-then-count-ge2 c =
    let found : first_twice c.args.counts.now.entries ≡ Some c.in_ok-copied.field-0 = search rules in
    found_twice c.args.counts.now.entries _ c.iter-name-items.ensures.ordered found

pub returns : goal.returns
returns c =
    let none : first_twice c.args.counts.now.entries ≡ None = search rules in
    none_twice c.args.counts.now.entries none
