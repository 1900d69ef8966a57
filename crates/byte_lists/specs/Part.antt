-- Parts of a row of bytes.
use Rattle.std.specs.Prelude.{ℕ, ◌+◌, List, ◌++◌, length, take, drop}

-- the bytes of a part
abbrev pub part : List ℕ → ℕ → ℕ → List ℕ
part bs start count = take count (drop start bs)

-- the bytes with a part written anew
abbrev pub with_part : List ℕ → ℕ → List ℕ → List ℕ
with_part bs start new = take start bs ++ (new ++ drop (start + length new) bs)
