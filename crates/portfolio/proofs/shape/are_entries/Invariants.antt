use Rattle.std.proofs.Common.{◌≡◌}
use Rattle.toml.specs.View.{members_view, table_view}
use Rattle.portfolio.specs.Values.{all_members, fits}
use Rattle.portfolio.proofs.shape.are_entries.Given as goal

abbrev pub invariant-loop-key : goal.invariant-loop-key
invariant-loop-key l = all_members (fits l.entry) (members_view l.key-iterator) ≡ all_members (fits l.entry) (table_view l.table)
