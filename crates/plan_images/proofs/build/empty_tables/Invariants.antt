use Rattle.std.specs.Prelude.{◌≡◌, map, take}
use Rattle.plan_images.specs.Tables.{empty}
use Rattle.plan_images.proofs.build.empty_tables.Given as goal

abbrev pub invariant-loop-i : goal.invariant-loop-i
invariant-loop-i l = l.tables.items ≡ map empty (take l.i l.lengths)
