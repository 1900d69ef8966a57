use Rattle.std.proofs.Common.{◌≡◌, ◌++◌, length, map}
use Rattle.statement_places.specs.Parts.{seen}
use Rattle.expand_rewrite.specs.Old.{known}
use Rattle.expand_rewrite.specs.Moves as spec
use Rattle.expand_rewrite.proofs.moves.words_for.Given as goal

abbrev pub invariant-loop-rest : goal.invariant-loop-rest
invariant-loop-rest l = l.wanted ++ spec.words_for (known l.program) l.old l.literal (map seen l.rest) ≡ spec.words_for (known l.program) l.old l.literal (map seen l.group)

abbrev pub decreases-loop-rest : goal.decreases-loop-rest
decreases-loop-rest l = length l.rest
