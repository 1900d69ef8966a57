use Rattle.std.proofs.Common.{◌≡◌, length, reverse}
use Rattle.source_edit.specs.Lines.{is_gap}
use Rattle.source_edit.specs.Lines.{dropped_by}
use Rattle.source_edit.proofs.line.without_last_gaps.Given as goal

abbrev pub invariant-loop-cells : goal.invariant-loop-cells
invariant-loop-cells l = dropped_by is_gap (reverse l.cells) ≡ dropped_by is_gap (reverse l.fn.cells)

abbrev pub decreases-loop-cells : goal.decreases-loop-cells
decreases-loop-cells l = length l.cells
