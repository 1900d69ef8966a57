use Rattle.std.proofs.Common.{◌≡◌, ◌++◌, length}
use Rattle.picture.specs.Inserting.{symbol_at}
use Rattle.entry_limits.proofs.items.symbol_at.Given as goal

abbrev pub invariant-loop-rest : goal.invariant-loop-rest
invariant-loop-rest l =
    symbol_at l.left l.rest ≡ symbol_at l.at l.runs

abbrev pub decreases-loop-rest : goal.decreases-loop-rest
decreases-loop-rest l = length l.rest
