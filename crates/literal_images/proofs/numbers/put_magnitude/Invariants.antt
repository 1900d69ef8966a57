use Rattle.std.proofs.Common.{◌≡◌, ◌-◌, ◌/◌, ◌^◌, drop}
use Rattle.byte_lists.specs.Digit.{decimal, codes}
use Rattle.literal_images.proofs.numbers.put_magnitude.Given as goal

abbrev pub invariant-loop-place : goal.invariant-loop-place
invariant-loop-place l = (l.rest ≡ l.fn.magnitude / 10 ^ l.place) × (drop (l.length - l.place) l.into ≡ codes (decimal l.place l.fn.magnitude))
