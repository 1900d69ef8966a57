use Rattle.std.proofs.Common.{◌≡◌, ◌++◌, length}
use Rattle.date_uses.specs.Entries as spec
use Rattle.date_uses.proofs.entries.add_entries.Given as goal

abbrev pub invariant-loop-rest : goal.invariant-loop-rest
invariant-loop-rest l =
    (l.uses ++ spec.entries_uses l.program l.words l.layout l.number l.rest ≡ l.fn.uses ++ spec.entries_uses l.program l.words l.layout l.first l.entries)
    × (spec.number_behind l.number l.rest ≡ spec.number_behind l.first l.entries)

abbrev pub decreases-loop-rest : goal.decreases-loop-rest
decreases-loop-rest l = length l.rest
