use Rattle.std.proofs.Common.{◌≡◌, ◌++◌, length}
use Rattle.toml.specs.View.{items_view}
use Rattle.portfolio.specs.Values.{groups}
use Rattle.portfolio.proofs.collect.groups.Given as goal

abbrev pub invariant-loop-rest : goal.invariant-loop-rest
invariant-loop-rest l = l.list ++ groups (items_view l.rest) ≡ groups (items_view l.items)

abbrev pub decreases-loop-rest : goal.decreases-loop-rest
decreases-loop-rest l = length l.rest
