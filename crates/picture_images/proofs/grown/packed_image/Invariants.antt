use Rattle.std.proofs.Common.{◌≡◌, take, map}
use Rattle.picture_images.specs.Images.{packed_run}
use Rattle.picture_images.proofs.grown.packed_image.Given as goal

abbrev pub invariant-loop-run : goal.invariant-loop-run
invariant-loop-run l = l.image ≡ map (packed_run l.more) (take l.run-index l.runs)
