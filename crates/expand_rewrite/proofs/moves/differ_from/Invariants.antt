use Rattle.std.proofs.Common.{◌≡◌, length}
use Rattle.std.specs.List.{list_any}
use Rattle.expand_rewrite.specs.Moves as spec
use Rattle.expand_rewrite.proofs.moves.differ_from.Given as goal

abbrev pub invariant-loop-rest : goal.invariant-loop-rest
invariant-loop-rest l = list_any (spec.differs l.word) l.rest ≡ list_any (spec.differs l.word) l.words

abbrev pub decreases-loop-rest : goal.decreases-loop-rest
decreases-loop-rest l = length l.rest
