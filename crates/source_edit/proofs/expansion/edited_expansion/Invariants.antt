use Rattle.std.proofs.Common.{◌≡◌, ◌++◌, length}
use Rattle.source_edit.specs.Changes.{replaced}
use Rattle.source_edit.specs.Expansions.{edited}
use Rattle.source_edit.proofs.expansion.edited_expansion.Given as goal

abbrev pub invariant-loop-rest : goal.invariant-loop-rest
invariant-loop-rest l = l.edited ++ edited (replaced l.replacements) l.program l.position l.rest ≡ edited (replaced l.replacements) l.program 0 l.words

abbrev pub decreases-loop-rest : goal.decreases-loop-rest
decreases-loop-rest l = length l.rest
