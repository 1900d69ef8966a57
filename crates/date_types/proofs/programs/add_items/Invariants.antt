use Rattle.std.proofs.Common.{◌≡◌, ◌++◌, length}
use Rattle.date_types.specs.Programs as spec
use Rattle.date_types.proofs.programs.add_items.Given as goal

abbrev pub invariant-loop-rest : goal.invariant-loop-rest
invariant-loop-rest l = l.rules ++ spec.items_rules l.words l.rest ≡ l.fn.rules ++ spec.items_rules l.words l.items

abbrev pub decreases-loop-rest : goal.decreases-loop-rest
decreases-loop-rest l = length l.rest
