use Rattle.std.specs.Prelude.{◌≡◌, ◌++◌, take}
use Rattle.plan_images.specs.Lengths.{lengths_of}
use Rattle.plan_images.proofs.lengths.add_lengths.Given as goal

abbrev pub invariant-loop-area : goal.invariant-loop-area
invariant-loop-area l = l.lengths ≡ l.initial.lengths ++ lengths_of (take l.area-index l.areas)
