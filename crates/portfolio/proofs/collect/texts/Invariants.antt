use Rattle.std.proofs.Common.{◌≡◌, ◌++◌, length}
use Rattle.toml.specs.View.{items_view}
use Rattle.portfolio.specs.Values.{texts}
use Rattle.portfolio.proofs.collect.texts.Given as goal

abbrev pub invariant-loop-rest : goal.invariant-loop-rest
invariant-loop-rest l = l.list ++ texts (items_view l.rest) ≡ texts (items_view l.items)

abbrev pub decreases-loop-rest : goal.decreases-loop-rest
decreases-loop-rest l = length l.rest
