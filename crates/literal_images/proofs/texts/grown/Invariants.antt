use Rattle.std.proofs.Common.{◌≡◌, ◌≤◌, ◌-◌, ◌++◌, length}
use Rattle.year_image.specs.Image.{image}
use Rattle.literal_images.specs.Texts as spec
use Rattle.literal_images.proofs.texts.grown.Given as goal

abbrev pub invariant-loop-years : goal.invariant-loop-years
invariant-loop-years l =
    (l.text ++ image 48 (spec.pieces_from l.span l.at (length l.bytes) l.years) l.rest ≡ image 48 (spec.pieces l.span (length l.bytes) l.modes) l.bytes)
    × (length l.rest ≤ length l.bytes - l.at)

abbrev pub decreases-loop-years : goal.decreases-loop-years
decreases-loop-years l = length l.years
