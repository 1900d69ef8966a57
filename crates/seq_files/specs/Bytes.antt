-- The bytes of a file.
use Rattle.std.specs.Prelude.{ℕ, List, [], Option, Some, None}

-- a missing file has none
abbrev pub bytes_in : Option (List ℕ) → List ℕ
bytes_in None = []
bytes_in (Some bs) = bs
