-- Images and tame bytes, computed.
use Rattle.std.proofs.Common.{◌≡◌, true, false, [], ◌∷◌, Some, None, refl}
use Rattle.year_image.specs.Piece.{Keep, Pair, Packed}
use Rattle.year_image.specs.Packing.{is_packed, grow_packed}
use Rattle.year_image.specs.Image.{century, image, tame_pair, tame_packed}

-- 00 becomes 1900, two question marks become four, and a windowed year stays
years : image 48 (Keep ∷ Pair None ∷ Pair None ∷ Pair (Some 50) ∷ []) (65 ∷ 48 ∷ 48 ∷ 63 ∷ 63 ∷ 53 ∷ 56 ∷ []) ≡ 65 ∷ 49 ∷ 57 ∷ 48 ∷ 48 ∷ 63 ∷ 63 ∷ 63 ∷ 63 ∷ 53 ∷ 56 ∷ []
unfolding century
years = refl

-- the packed number 991231 with its year in front becomes 19991231
packed_date : image 48 (Packed 6 4 None ∷ []) (0x09 ∷ 0x91 ∷ 0x23 ∷ 0x1F ∷ []) ≡ 0x01 ∷ 0x99 ∷ 0x91 ∷ 0x23 ∷ 0x1F ∷ []
unfolding grow_packed is_packed
packed_date = refl

-- packed spaces become one space more
packed_spaces : image 48 (Packed 6 4 None ∷ []) (32 ∷ 32 ∷ 32 ∷ 32 ∷ []) ≡ 32 ∷ 32 ∷ 32 ∷ 32 ∷ 32 ∷ []
unfolding grow_packed is_packed
packed_spaces = refl

-- a digit and a space are no year
half_blank : tame_pair 48 None (57 ∷ 32 ∷ []) ≡ false
unfolding tame_pair
half_blank = refl

-- a year below its pivot is none either, but spaces are
below : tame_pair 48 (Some 50) (52 ∷ 57 ∷ []) ≡ false
unfolding tame_pair
below = refl

blank : tame_pair 48 (Some 50) (32 ∷ 32 ∷ []) ≡ true
unfolding tame_pair
blank = refl

-- a packed number with a minus is not tame
minus : tame_packed 5 3 None (0x99 ∷ 0x36 ∷ 0x5D ∷ []) ≡ false
unfolding tame_packed is_packed
minus = refl
