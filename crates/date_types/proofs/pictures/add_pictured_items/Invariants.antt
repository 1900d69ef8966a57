use Rattle.std.proofs.Common.{◌≡◌, ◌++◌, length}
use Rattle.date_types.specs.Pictures as spec
use Rattle.date_types.proofs.pictures.add_pictured_items.Given as goal

abbrev pub invariant-loop-rest : goal.invariant-loop-rest
invariant-loop-rest l = l.pictured ++ spec.pictured_items l.words l.rest ≡ l.fn.pictured ++ spec.pictured_items l.words l.items

abbrev pub decreases-loop-rest : goal.decreases-loop-rest
decreases-loop-rest l = length l.rest
