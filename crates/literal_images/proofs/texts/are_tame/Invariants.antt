use Rattle.std.proofs.Common.{◌≡◌, length}
use Rattle.literal_images.specs.Texts as spec
use Rattle.literal_images.proofs.texts.are_tame.Given as goal

abbrev pub invariant-loop-years : goal.invariant-loop-years
invariant-loop-years l =
    spec.are_tame (spec.pieces_from l.span l.at (length l.bytes) l.years) l.rest ≡ spec.are_tame (spec.pieces l.span (length l.bytes) l.modes) l.bytes

abbrev pub decreases-loop-years : goal.decreases-loop-years
decreases-loop-years l = length l.years
