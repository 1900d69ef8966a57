use Rattle.std.specs.Prelude.{All, take}
use Rattle.plan_images.specs.Tables.{IsPlaced}
use Rattle.plan_images.proofs.fit.are_placed.Given as goal

abbrev pub invariant-loop-i : goal.invariant-loop-i
invariant-loop-i l = All (IsPlaced l.lengths) (take l.i l.modes)
