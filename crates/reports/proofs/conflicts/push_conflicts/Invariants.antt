use Rattle.std.proofs.Common.{◌≡◌, ◌++◌, ◌+◌, drop}
use Rattle.reports.specs.Conflicts as spec
use Rattle.reports.specs.Rows.{IsBetweenRows, rows_text, written}
use Rattle.reports.proofs.conflicts.push_conflicts.Given as goal

abbrev pub invariant-loop-i : goal.invariant-loop-i
invariant-loop-i l =
    let known = spec.known_of l.sources in
    record {
      between : IsBetweenRows l.rows;
      rows : written l.rows ++ rows_text (spec.rows_from known (l.i + 1) (drop l.i l.list)) ≡ written l.fn.rows ++ rows_text (spec.rows_from known 1 l.list);
    }
