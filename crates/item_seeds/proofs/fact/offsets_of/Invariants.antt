use Rattle.std.proofs.Common.{◌≡◌, ◌++◌, length}
use Rattle.item_seeds.specs.Seeds as spec
use Rattle.item_seeds.proofs.fact.offsets_of.Given as goal

abbrev pub invariant-loop-rest : goal.invariant-loop-rest
invariant-loop-rest l = l.offsets ++ spec.offsets_from l.at l.rest ≡ spec.offsets_from 0 l.places

abbrev pub decreases-loop-rest : goal.decreases-loop-rest
decreases-loop-rest l = length l.rest
