-- The seeds that a shelf holds for a portfolio, and why it holds none.
use Rattle.std.specs.Prelude.{◌≡◌, ℕ, ◌+◌, List, [], ◌∷◌, ◌++◌, length, Option, Some, None}
use Rattle.y2k_base.specs.declared.text.Text.{Text}
use Rattle.data_layout.specs.declared.portfolio.Portfolio.{Portfolio}
use Rattle.seed_file.specs.Seeds.{IsSeedFile, HasSeedFault}
use Rattle.seed_file.specs.declared.file.SeedFault.TheVariants as fault
use Rattle.shelf.specs.Contents.{Files}
use Rattle.text_load.specs.Texts.{HasText, HasLoadFault}
use Rattle.text_load.specs.declared.LoadFault.TheVariants as load
use Rattle.year_labels.specs.declared.label.Seed.{Seed}
use Rattle.seed_load.specs.declared.refusal.SeedRefusal.{SeedRefusal}
use Rattle.seed_load.specs.declared.refusal.SeedRefusal.TheVariants as refusal

-- the bytes of all texts
abbrev pub bytes_of : List Text → ℕ
bytes_of [] = 0
bytes_of (text ∷ texts) = length text.bytes + bytes_of texts

-- the file of that name has these seeds
abbrev pub AreSeedsAt : List ℕ → ℕ → Option Files → Portfolio → List Seed → Type 0
AreSeedsAt name used told p seeds = (bytes : List ℕ) × HasText name used bytes told × IsSeedFile p bytes seeds

-- the file in the folder, where there is one, has these seeds, and else there are none
abbrev pub AreSeeds : List ℕ → ℕ → Option Files → Portfolio → Option (List ℕ) → List Seed → Type 0
AreSeeds folder used told p None seeds = seeds ≡ []
AreSeeds folder used told p (Some name) seeds = AreSeedsAt (folder ++ name) used told p seeds

-- why a text has no seeds; want of memory says nothing
abbrev pub IsRefusedText : Portfolio → List ℕ → SeedRefusal → Type 0
IsRefusedText p bytes refusal.Missing = ⊥
IsRefusedText p bytes refusal.TooLarge = ⊥
IsRefusedText p bytes (refusal.RowShape row) = HasSeedFault p bytes (fault.RowShape row)
IsRefusedText p bytes (refusal.SeedUnknown row) = HasSeedFault p bytes (fault.SeedUnknown row)
IsRefusedText p bytes refusal.Shelf = ⊥
IsRefusedText p bytes refusal.Memory = Unit {0}

abbrev pub IsRefusedIn : List ℕ → ℕ → Option Files → Portfolio → SeedRefusal → Type 0
IsRefusedIn name used told p refusal = (bytes : List ℕ) × HasText name used bytes told × IsRefusedText p bytes refusal

-- why the file of that name has no seeds
abbrev pub IsRefusedAt : List ℕ → ℕ → Option Files → Portfolio → SeedRefusal → Type 0
IsRefusedAt name used told p refusal.Missing = HasLoadFault name used told load.Missing
IsRefusedAt name used told p refusal.TooLarge = HasLoadFault name used told load.TooLarge
IsRefusedAt name used told p (refusal.RowShape row) = IsRefusedIn name used told p (refusal.RowShape row)
IsRefusedAt name used told p (refusal.SeedUnknown row) = IsRefusedIn name used told p (refusal.SeedUnknown row)
IsRefusedAt name used told p refusal.Shelf = Unit {0}
IsRefusedAt name used told p refusal.Memory = Unit {0}

-- why there are no seeds; where no file is named, nothing is refused
abbrev pub HasSeedRefusal : List ℕ → ℕ → Option Files → Portfolio → Option (List ℕ) → SeedRefusal → Type 0
HasSeedRefusal folder used told p None refusal = ⊥
HasSeedRefusal folder used told p (Some name) refusal = IsRefusedAt (folder ++ name) used told p refusal
