-- What the shelf holds of a text, and why a text is not loaded.
use Rattle.std.specs.Prelude.{◌≡◌, ℕ, ◌+◌, ◌<◌, ◌≤◌, List, length, Option, Some, None, IfSome}
use Rattle.std.specs.FinMap.{get}
use Rattle.shelf.specs.Contents.{Files}
use Rattle.text_load.specs.declared.LoadFault.{LoadFault}
use Rattle.text_load.specs.declared.LoadFault.TheVariants.{Missing, TooLarge, Shelf, Memory}

-- the file has these bytes, and with those used before they are at most four million
abbrev pub HasText : List ℕ → ℕ → List ℕ → Option Files → Type 0
HasText name used bytes told = (used + length bytes ≤ 4000000) × IfSome told (λ files. get files name ≡ Some bytes)

-- nothing is said of the files
abbrev pub IsOutside : LoadFault → Type 0
IsOutside Shelf = Unit {0}
IsOutside Memory = Unit {0}
IsOutside _ = ⊥

-- there is no such file, or with it the bytes would be more than four million
abbrev pub HasLoadFault : List ℕ → ℕ → Option Files → LoadFault → Type 0
HasLoadFault name used told Missing = IfSome told (λ files. get files name ≡ None)
HasLoadFault name used told TooLarge = IfSome told (λ files. (bytes : List ℕ) × (get files name ≡ Some bytes) × (4000000 < used + length bytes))
HasLoadFault name used told Shelf = Unit {0}
HasLoadFault name used told Memory = Unit {0}
