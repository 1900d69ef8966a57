use Rattle.std.proofs.Common.{◌≡◌, ◌++◌}
use Rattle.toml.specs.View.{members_view, table_view}
use Rattle.portfolio.specs.Values.{names}
use Rattle.portfolio.proofs.collect.names.Given as goal

abbrev pub invariant-loop-key : goal.invariant-loop-key
invariant-loop-key l = l.list ++ names (members_view l.key-iterator) ≡ names (table_view l.table)
