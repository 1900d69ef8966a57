use Rattle.std.proofs.Common.{◌≡◌, ◌++◌, length}
use Rattle.picture_images.specs.Images.{display_image}
use Rattle.picture_images.proofs.grown.display_image.Given as goal

abbrev pub invariant-loop-rest : goal.invariant-loop-rest
invariant-loop-rest l = l.image ++ display_image l.class l.index l.at l.rest ≡ display_image l.class l.index l.fn.start l.runs

abbrev pub decreases-loop-rest : goal.decreases-loop-rest
decreases-loop-rest l = length l.rest
