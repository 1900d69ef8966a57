-- Bytes as records that all have the same length.
use Rattle.std.specs.Prelude.{ℕ, zero, suc, ◌/◌, List, [], ◌∷◌, length, take, drop}

-- the first records of a file, each of this length
abbrev pub records : (size count : ℕ) → List ℕ → List (List ℕ)
records size zero bs = []
records size (suc count) bs = take size bs ∷ records size count (drop size bs)

-- all whole records
abbrev pub records_of : ℕ → List ℕ → List (List ℕ)
records_of size bs = records size (length bs / size) bs
