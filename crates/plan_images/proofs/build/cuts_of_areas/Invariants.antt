use Rattle.std.specs.Prelude.{take}
use Rattle.plan_images.specs.Tables.{AreTables}
use Rattle.plan_images.proofs.build.cuts_of_areas.Given as goal

abbrev pub invariant-loop-i : goal.invariant-loop-i
invariant-loop-i l = AreTables l.lengths (take l.i l.modes) l.tables.items
