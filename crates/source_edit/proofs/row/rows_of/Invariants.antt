use Rattle.std.proofs.Common.{◌≡◌, ◌++◌, ◌-◌, ◌≤◌, drop, length}
use Rattle.fixed_format.specs.Shown.{text_lines, text_words}
use Rattle.source_edit.specs.Changes.{changed}
use Rattle.source_edit.specs.Rows.{rows_from, left_over}
use Rattle.source_edit.proofs.row.rows_of.Given as goal

abbrev pub invariant-loop-line : goal.invariant-loop-line
invariant-loop-line l =
    (l.rows ++ rows_from (changed l.changes) l.number (drop (l.number - 1) (text_lines l.lines)) l.rest ≡ rows_from (changed l.changes) 1 (text_lines l.lines) (text_words l.lines))
    × (left_over l.number (drop (l.number - 1) (text_lines l.lines)) l.rest ≡ left_over 1 (text_lines l.lines) (text_words l.lines))
    × (1 ≤ l.number)

abbrev pub decreases-loop-line : goal.decreases-loop-line
decreases-loop-line l = length (text_lines l.lines) - (l.number - 1)
