use Rattle.std.proofs.Common.{◌≡◌, ◌++◌, length, option_map, List, ℕ}
use Rattle.item_seeds.specs.Names as spec
use Rattle.item_seeds.proofs.name.names_of.Given as goal

abbrev pub invariant-loop-rest : goal.invariant-loop-rest
invariant-loop-rest l = option_map (λ (more : List (List ℕ)). l.names ++ more) (spec.names_of l.rest) ≡ spec.names_of l.words

abbrev pub decreases-loop-rest : goal.decreases-loop-rest
decreases-loop-rest l = length l.rest
