-- Texts that are copied and compared from the left.
use Rattle.std.specs.Prelude.{ℕ, ◌-◌, List, ◌++◌, length, take, replicate}
use Rattle.std.specs.declared.cmp.Ordering.{Ordering}
use Rattle.std.specs.Ordering.{nat_cmp}
use Rattle.std.specs.Cmp.Lexicographic.{slice_cmp}

-- a text, filled with spaces to this length
abbrev pub filled : ℕ → List ℕ → List ℕ
filled n xs = xs ++ replicate (n - length xs) 32

-- a text as a receiver of this length gets it: cut, or filled with spaces
abbrev pub copied : ℕ → List ℕ → List ℕ
copied n xs = take n (filled n xs)

-- the order of two texts, the shorter filled with spaces
abbrev pub text_cmp : List ℕ → List ℕ → Ordering
text_cmp xs ys = slice_cmp nat_cmp (filled (length ys) xs) (filled (length xs) ys)
