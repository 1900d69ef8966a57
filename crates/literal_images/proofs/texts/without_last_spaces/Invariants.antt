use Rattle.std.proofs.Common.{◌≡◌, length, reverse}
use Rattle.literal_images.specs.Texts as spec
use Rattle.literal_images.proofs.texts.without_last_spaces.Given as goal

abbrev pub invariant-loop-text : goal.invariant-loop-text
invariant-loop-text l = spec.without_spaces (reverse l.text) ≡ spec.without_spaces (reverse l.fn.text)

abbrev pub decreases-loop-text : goal.decreases-loop-text
decreases-loop-text l = length l.text
