use Rattle.std.proofs.Common.{nat_le, ap}
use Rattle.portfolio.specs.Counts.{is_counted_twice}
use Rattle.portfolio.specs.Faults.{is_twice_in}
use Rattle.portfolio.proofs.Counts.{match_alike}
use Rattle.portfolio.proofs.repeat.least_twice.Goals as goal

pub returns : goal.returns
returns c =
    match_alike (is_counted_twice c.in_ok-counts.counts) (is_twice_in c.args.names.now) c.in_ok-found.found (λ q. ap (nat_le 2) (c.in_ok-counts.ensures q)) c.in_ok-found.ensures
