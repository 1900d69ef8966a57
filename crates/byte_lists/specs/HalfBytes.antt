-- Bytes as half-bytes, the high one first.
use Rattle.std.specs.Prelude.{ℕ, ◌+◌, ◌*◌, ◌/◌, ◌%◌, List, [], ◌∷◌}

-- the half-bytes of bytes
abbrev pub halves : List ℕ → List ℕ
halves [] = []
halves (b ∷ bs) = b / 16 ∷ b % 16 ∷ halves bs

-- the bytes of half-bytes
abbrev pub joined : List ℕ → List ℕ
joined [] = []
joined (h ∷ []) = []
joined (h ∷ l ∷ hs) = (h * 16 + l) ∷ joined hs
