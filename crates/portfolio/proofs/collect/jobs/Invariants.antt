use Rattle.std.proofs.Common.{◌≡◌, ◌++◌}
use Rattle.toml.specs.View.{members_view, table_view}
use Rattle.portfolio.specs.Values.{jobs}
use Rattle.portfolio.proofs.collect.jobs.Given as goal

abbrev pub invariant-loop-key : goal.invariant-loop-key
invariant-loop-key l = l.list ++ jobs (members_view l.key-iterator) ≡ jobs (table_view l.table)
