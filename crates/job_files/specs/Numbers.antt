-- External files by their numbers, which are their places in a portfolio.
use Rattle.std.specs.Prelude.{◌≡◌, ℕ, ◌+◌, List, [], ◌∷◌, slice_get, Option, Some, option_map}
use Rattle.data_layout.specs.declared.portfolio.FileUse.{FileUse}
use Rattle.name_tables.specs.Table.{holds_nothing, with_value}

-- the numbers of files by their external names, where the first has this number; of several of one name that of the last
abbrev pub numbers_from : (List ℕ → Option ℕ) → ℕ → List FileUse → List ℕ → Option ℕ
numbers_from before number [] = before
numbers_from before number (f ∷ fs) = numbers_from (with_value before f.external number) (number + 1) fs

abbrev pub number_of : List FileUse → List ℕ → Option ℕ
number_of files = numbers_from holds_nothing 0 files

abbrev pub external_of : FileUse → List ℕ
external_of file = file.external

-- no two files have one external name
abbrev pub AreApart : List FileUse → Type 0
AreApart files =
    (i j : ℕ) (external : List ℕ) → option_map external_of (slice_get files i) ≡ Some external → option_map external_of (slice_get files j) ≡ Some external → i ≡ j
