use Rattle.std.specs.Prelude.{◌≡◌, All}
use Rattle.plan_images.specs.Edges.{IsSound, cuts_of}
use Rattle.plan_images.proofs.build.tables_of.Given as goal

abbrev pub invariant-loop-cuts : goal.invariant-loop-cuts
invariant-loop-cuts l = (cuts_of l.tables.items ≡ l.yielded) × All IsSound l.tables.items
