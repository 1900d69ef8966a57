use Rattle.std.proofs.Common.{◌≡◌, ◌++◌, ◌-◌}
use Rattle.statement_words.specs.Edited.{between}
use Rattle.statement_words.proofs.edited.add_edited.Given as goal

abbrev pub invariant-loop-position : goal.invariant-loop-position
invariant-loop-position l =
    l.into ++ between l.source.program l.source.words.now l.source.edits.now l.position l.end
    ≡ l.fn.into ++ between l.source.program l.source.words.now l.source.edits.now l.from l.end

abbrev pub decreases-loop-position : goal.decreases-loop-position
decreases-loop-position l = l.end - l.position
