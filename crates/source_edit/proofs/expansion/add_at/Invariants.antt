use Rattle.std.proofs.Common.{◌≡◌, ◌++◌, length}
use Rattle.source_edit.specs.Expansions.{standing}
use Rattle.source_edit.proofs.expansion.add_at.Given as goal

abbrev pub invariant-loop-rest : goal.invariant-loop-rest
invariant-loop-rest l = l.into ++ standing l.origin l.rest ≡ l.initial.into ++ standing l.origin l.words

abbrev pub decreases-loop-rest : goal.decreases-loop-rest
decreases-loop-rest l = length l.rest
