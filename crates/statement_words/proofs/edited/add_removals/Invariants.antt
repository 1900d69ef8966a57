use Rattle.std.proofs.Common.{◌≡◌, ◌++◌, ◌-◌}
use Rattle.statement_words.specs.Edited.{removals}
use Rattle.statement_words.proofs.edited.add_removals.Given as goal

abbrev pub invariant-loop-position : goal.invariant-loop-position
invariant-loop-position l = l.edits ++ removals l.program l.words l.position (l.end - l.position) ≡ l.fn.edits ++ removals l.program l.words l.from (l.end - l.from)

abbrev pub decreases-loop-position : goal.decreases-loop-position
decreases-loop-position l = l.end - l.position
