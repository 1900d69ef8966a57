use Rattle.std.proofs.Common.{◌≡◌, take}
use Rattle.picture.specs.Places.{places, digit_count}
use Rattle.picture_images.proofs.printed.count_digits.Given as goal

abbrev pub invariant-loop-run : goal.invariant-loop-run
invariant-loop-run l = l.digits ≡ digit_count (places (take l.run-index l.runs))
