use Rattle.std.proofs.Common.{◌≡◌, ◌++◌, take}
use Rattle.std.specs.List.{flat_map}
use Rattle.reports.specs.Plans as spec
use Rattle.reports.specs.Rows.{IsBetweenRows, rows_text, written}
use Rattle.reports.proofs.plan.push_starts.Given as goal

abbrev pub invariant-loop-i : goal.invariant-loop-i
invariant-loop-i l = record {
  between : IsBetweenRows l.rows;
  rows : written l.rows ≡ written l.fn.rows ++ rows_text (flat_map (spec.rows_at l.texts l.portfolio l.index) (take l.i l.starts));
}
