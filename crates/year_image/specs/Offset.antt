-- Where the bytes of a record stand after its years got their century.
use Rattle.std.specs.Prelude.{ℕ, zero, suc, ◌+◌, ◌-◌, cond, List, [], ◌∷◌, nat_le}
use Rattle.year_image.specs.Piece.{Piece, width, grown_width}

-- where the image of the pieces before this offset ends
abbrev pub new_offset : List Piece → ℕ → ℕ
new_offset [] o = 0
new_offset (p ∷ ps) zero = 0
new_offset (p ∷ ps) (suc o) = grown_width p + new_offset ps (suc o - width p)

-- where the last image byte of the byte at this offset stands; what is put in belongs to the first byte of its piece
abbrev pub image_offset : List Piece → ℕ → ℕ
image_offset [] o = o
image_offset (p ∷ ps) o = cond (nat_le (o + 1) (width p)) (o + (grown_width p - width p)) (grown_width p + image_offset ps (o - width p))
