use Rattle.std.proofs.Common.{◌≡◌, ◌++◌, map, take}
use Rattle.reports.specs.Names as spec
use Rattle.reports.proofs.names.add_names.Given as goal

abbrev pub invariant-loop-i : goal.invariant-loop-i
invariant-loop-i l = l.names ≡ l.fn.names ++ map (spec.area_name l.program) (take l.i l.areas)
