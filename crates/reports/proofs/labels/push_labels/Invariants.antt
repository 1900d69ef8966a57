use Rattle.std.proofs.Common.{◌≡◌, ◌++◌, map, take}
use Rattle.reports.specs.Labels as spec
use Rattle.reports.specs.Rows.{IsBetweenRows, rows_text, written}
use Rattle.reports.proofs.labels.push_labels.Given as goal

abbrev pub invariant-loop-i : goal.invariant-loop-i
invariant-loop-i l = record {
  between : IsBetweenRows l.rows;
  rows : written l.rows ≡ written l.fn.rows ++ rows_text (map (spec.label_row l.names) (take l.i l.labelling));
}
