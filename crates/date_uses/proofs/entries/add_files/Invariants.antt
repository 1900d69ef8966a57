use Rattle.std.proofs.Common.{◌≡◌, ◌++◌, length}
use Rattle.date_uses.specs.Entries as spec
use Rattle.date_uses.proofs.entries.add_files.Given as goal

abbrev pub invariant-loop-rest : goal.invariant-loop-rest
invariant-loop-rest l =
    (l.uses ++ spec.files_uses l.program l.words l.layout l.number l.rest ≡ l.fn.uses ++ spec.files_uses l.program l.words l.layout l.first l.files)
    × (spec.number_behind_files l.number l.rest ≡ spec.number_behind_files l.first l.files)

abbrev pub decreases-loop-rest : goal.decreases-loop-rest
decreases-loop-rest l = length l.rest
