-- Files of records that all have the same pieces.
use Rattle.std.specs.Prelude.{ℕ, List, [], ◌∷◌, ◌++◌}
use Rattle.year_image.specs.Piece.{Piece}
use Rattle.year_image.specs.Image.{image, IsTame}

-- the images of records, one after the other
abbrev pub images : List Piece → List (List ℕ) → List ℕ
images ps [] = []
images ps (r ∷ rs) = image 48 ps r ++ images ps rs

-- every record is tame
abbrev pub AreTame : List Piece → List (List ℕ) → Type 0
AreTame ps [] = Unit {0}
AreTame ps (r ∷ rs) = IsTame 48 ps r × AreTame ps rs
