-- A portfolio with its seeds, as a shelf holds them for a manifest.
use Rattle.std.specs.Prelude.{ℕ, ◌+◌, List, Option, string_bytes}
use Rattle.y2k_base.specs.declared.text.Text.{Text}
use Rattle.data_layout.specs.declared.portfolio.Portfolio.{Portfolio}
use Rattle.gathered.specs.Shelved.{IsGathered}
use Rattle.manifest_load.specs.declared.open.Opened.{Opened}
use Rattle.seed_load.specs.Shelved.{bytes_of, AreSeeds, HasSeedRefusal}
use Rattle.seed_load.specs.declared.refusal.SeedRefusal.{SeedRefusal}
use Rattle.shelf.specs.Contents.{Files}
use Rattle.year_labels.specs.declared.label.Seed.{Seed}
use Rattle.labelled_portfolio.specs.declared.seeded.Seeded.{Seeded}

-- the shelf holds these texts for the manifest, which are this portfolio
abbrev pub IsGatheredFor : Option Files → Opened → List Text → Portfolio → Type 0
IsGatheredFor told opened texts p = IsGathered (string_bytes opened.folder) opened.length told opened.manifest texts p

-- the bytes of the manifest and the texts
abbrev pub bytes_before : Opened → List Text → ℕ
bytes_before opened texts = opened.length + bytes_of texts

-- the seed file of the manifest, if it names one, has these seeds in this portfolio of these texts
abbrev pub AreSeedsFor : Option Files → Opened → List Text → Portfolio → List Seed → Type 0
AreSeedsFor told opened texts p seeds = AreSeeds (string_bytes opened.folder) (bytes_before opened texts) told p opened.manifest.seeds seeds

-- why it has none
abbrev pub HasSeedRefusalFor : Option Files → Opened → List Text → Portfolio → SeedRefusal → Type 0
HasSeedRefusalFor told opened texts p refusal =
    HasSeedRefusal (string_bytes opened.folder) (bytes_before opened texts) told p opened.manifest.seeds refusal

-- the texts of the manifest are this portfolio, and its seed file has these seeds
abbrev pub IsSeeded : Option Files → Opened → Seeded → Type 0
IsSeeded told opened s =
    IsGatheredFor told opened s.gathered.texts.list s.gathered.portfolio
    × AreSeedsFor told opened s.gathered.texts.list s.gathered.portfolio s.seeds
