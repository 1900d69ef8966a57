use Rattle.std.proofs.Common.{◌≡◌, ◌++◌, drop}
use Rattle.reports.specs.Items as spec
use Rattle.reports.proofs.items.starts_in.Given as goal

abbrev pub invariant-loop-program : goal.invariant-loop-program
invariant-loop-program l = l.starts.items ++ spec.starts_in l.program (drop l.program l.layouts) ≡ spec.starts_in 0 l.layouts
