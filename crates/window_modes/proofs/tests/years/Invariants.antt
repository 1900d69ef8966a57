use Rattle.std.proofs.Common.{◌≤◌, All}
use Rattle.year_pairs.specs.declared.year.Year.{Year}
use Rattle.window_modes.proofs.tests.years.Given as goal

abbrev pub invariant-loop-i : goal.invariant-loop-i
invariant-loop-i l = All (λ (y : Year). y.place.offset ≤ 65535) l.years.items
