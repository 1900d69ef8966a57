use Rattle.std.proofs.Common.{length}
use Rattle.source_edit.specs.Changes.{replaced}
use Rattle.source_edit.proofs.Programs.{LeadsTo}
use Rattle.source_edit.proofs.expansion.program_clashes.Given as goal

abbrev pub invariant-loop-rest : goal.invariant-loop-rest
invariant-loop-rest l = LeadsTo (replaced l.replacements) l.old.books.list l.new.books.list l.old.programs l.new.programs l.program l.rest l.others l.clashes

abbrev pub decreases-loop-rest : goal.decreases-loop-rest
decreases-loop-rest l = length l.rest
