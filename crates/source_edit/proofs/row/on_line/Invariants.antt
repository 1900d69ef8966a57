use Rattle.std.proofs.Common.{◌≡◌, ◌++◌, length, map}
use Rattle.source_edit.specs.Changes.{changed}
use Rattle.source_edit.specs.Rows.{placed, on_line, behind_line}
use Rattle.source_edit.proofs.row.on_line.Given as goal

abbrev pub invariant-loop-rest : goal.invariant-loop-rest
invariant-loop-rest l = (l.own ++ map (placed (changed l.changes)) (on_line l.number l.rest) ≡ map (placed (changed l.changes)) (on_line l.number l.words)) × (behind_line l.number l.rest ≡ behind_line l.number l.words)

abbrev pub decreases-loop-rest : goal.decreases-loop-rest
decreases-loop-rest l = length l.rest
