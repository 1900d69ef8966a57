use Rattle.std.proofs.Common.{◌≡◌, ◌++◌, length, map}
use Rattle.statement_places.specs.Parts.{seen}
use Rattle.expand_rewrite.specs.Old.{known}
use Rattle.expand_rewrite.specs.Moves as spec
use Rattle.expand_rewrite.proofs.moves.moves_of.Given as goal

abbrev pub invariant-loop-parts_left : goal.invariant-loop-parts_left
invariant-loop-parts_left l = l.new ++ spec.moves (known l.program) (map seen l.parts_left) l.words_left ≡ spec.moves (known l.program) (map seen l.group) l.words

abbrev pub decreases-loop-parts_left : goal.decreases-loop-parts_left
decreases-loop-parts_left l = length l.parts_left
