use Rattle.std.proofs.Common.{◌≡◌, false, length}
use Rattle.portfolio.specs.Steps.{is_rest}
use Rattle.portfolio.proofs.name.is_shelf_name.Given as goal

abbrev pub invariant-loop-rest : goal.invariant-loop-rest
invariant-loop-rest l = is_rest l.is_named l.rest ≡ is_rest false l.name

abbrev pub decreases-loop-rest : goal.decreases-loop-rest
decreases-loop-rest l = length l.rest
