use Rattle.std.proofs.Common.{◌≡◌, ◌++◌, length}
use Rattle.item_seeds.specs.Names as spec
use Rattle.item_seeds.proofs.name.words_of.Given as goal

abbrev pub invariant-loop-rest : goal.invariant-loop-rest
invariant-loop-rest l = l.words ++ spec.words_from l.word l.rest ≡ spec.words_of l.text

abbrev pub decreases-loop-rest : goal.decreases-loop-rest
decreases-loop-rest l = length l.rest
