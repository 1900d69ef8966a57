use Rattle.std.specs.Prelude.{◌≡◌, take}
use Rattle.plan_images.specs.Edges.{growths, sums_from}
use Rattle.plan_images.proofs.table.sums_of.Given as goal

abbrev pub invariant-loop-i : goal.invariant-loop-i
invariant-loop-i l = (l.sums ≡ sums_from 0 (take l.i l.cuts.list)) × (l.sum ≡ growths (take l.i l.cuts.list))
