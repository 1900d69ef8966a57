use Rattle.std.specs.Prelude.{◌≡◌, take}
use Rattle.plan_images.specs.Lengths.{lengths_in}
use Rattle.plan_images.proofs.lengths.area_lengths.Given as goal

abbrev pub invariant-loop-layout : goal.invariant-loop-layout
invariant-loop-layout l = l.lengths ≡ lengths_in (take l.layout-index l.layouts)
