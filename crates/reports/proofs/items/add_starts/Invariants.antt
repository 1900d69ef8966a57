use Rattle.std.proofs.Common.{◌≡◌, ◌++◌, drop}
use Rattle.reports.specs.Items as spec
use Rattle.reports.proofs.items.add_starts.Given as goal

abbrev pub invariant-loop-i : goal.invariant-loop-i
invariant-loop-i l = l.starts.items ++ spec.starts_from l.program l.i (drop l.i l.items) ≡ l.fn.starts.items ++ spec.starts_from l.program 0 l.items
