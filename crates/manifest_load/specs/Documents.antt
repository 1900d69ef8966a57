-- The manifest that a shelf holds, and why it holds none.
use Rattle.std.specs.Prelude.{◌≡◌, ℕ, List, length, string_bytes, Option, Some}
use Rattle.std.specs.Str.{IsUtf8}
use Rattle.toml.specs.Data.{Members}
use Rattle.toml.specs.Parse.{parse_document}
use Rattle.portfolio.specs.Faults.{HasFault, HasNoFault, IsOnlyFault}
use Rattle.portfolio.specs.Meaning.{manifest_of}
use Rattle.portfolio.specs.declared.fault.ManifestFault.{ManifestFault}
use Rattle.portfolio.specs.declared.fault.ManifestFault.TheVariants as fault
use Rattle.portfolio.specs.declared.manifest.Manifest.{Manifest}
use Rattle.shelf.specs.Contents.{Files}
use Rattle.text_load.specs.Texts.{HasText, HasLoadFault}
use Rattle.text_load.specs.declared.LoadFault.TheVariants as load
use Rattle.manifest_load.specs.Folder.{folder_of}
use Rattle.manifest_load.specs.declared.refusal.ManifestRefusal.{ManifestRefusal}
use Rattle.manifest_load.specs.declared.refusal.ManifestRefusal.TheVariants as refusal
use Rattle.manifest_load.specs.declared.open.Opened.{Opened}

-- the bytes are text, and a document with this tree
abbrev pub IsDocument : List ℕ → Members → Type 0
IsDocument bytes tree = IsUtf8 bytes × (parse_document bytes ≡ Some tree)

abbrev pub IsNoDocument : List ℕ → Type 0
IsNoDocument bytes = (tree : Members) → IsDocument bytes tree → ⊥

-- a tree without fault says this
abbrev pub IsMeant : Members → Manifest → Type 0
IsMeant tree manifest = HasNoFault tree × (manifest ≡ manifest_of tree)

-- the bytes are a document without fault, which says this
abbrev pub IsSaying : List ℕ → Manifest → Type 0
IsSaying bytes manifest = (tree : Members) × IsDocument bytes tree × IsMeant tree manifest

-- the first fault of a tree; want of memory says nothing
abbrev pub IsRefusedTree : Members → ManifestRefusal → Type 0
IsRefusedTree tree refusal.Missing = ⊥
IsRefusedTree tree refusal.TooLarge = ⊥
IsRefusedTree tree refusal.NotToml = ⊥
IsRefusedTree tree (refusal.At kind key) = HasFault tree (fault.At kind key) × IsOnlyFault tree (fault.At kind key)
IsRefusedTree tree refusal.Shelf = ⊥
IsRefusedTree tree refusal.Memory = Unit {0}

-- a refusal that says the same as a fault
abbrev pub IsAs : ManifestFault → ManifestRefusal → Type 0
IsAs f refusal.Missing = ⊥
IsAs f refusal.TooLarge = ⊥
IsAs f refusal.NotToml = ⊥
IsAs f (refusal.At kind key) = f ≡ fault.At kind key
IsAs f refusal.Shelf = ⊥
IsAs f refusal.Memory = Unit {0}

-- why bytes say nothing
abbrev pub IsRefusedText : List ℕ → ManifestRefusal → Type 0
IsRefusedText bytes refusal.Missing = ⊥
IsRefusedText bytes refusal.TooLarge = ⊥
IsRefusedText bytes refusal.NotToml = IsNoDocument bytes
IsRefusedText bytes (refusal.At kind key) = (tree : Members) × IsDocument bytes tree × IsRefusedTree tree (refusal.At kind key)
IsRefusedText bytes refusal.Shelf = ⊥
IsRefusedText bytes refusal.Memory = Unit {0}

-- the shelf holds a manifest of that name, which says this; the folder, the length and the bytes are those of its file
abbrev pub IsOpened : List ℕ → Option Files → Opened → Type 0
IsOpened name told opened =
    (bytes : List ℕ) × HasText name 0 bytes told × IsSaying bytes opened.manifest
    × (opened.length ≡ length bytes) × (string_bytes opened.folder ≡ folder_of name) × (opened.text ≡ bytes)

-- why the shelf holds no manifest of that name
abbrev pub HasManifestRefusal : List ℕ → Option Files → ManifestRefusal → Type 0
HasManifestRefusal name told refusal.Missing = HasLoadFault name 0 told load.Missing
HasManifestRefusal name told refusal.TooLarge = HasLoadFault name 0 told load.TooLarge
HasManifestRefusal name told refusal.NotToml = (bytes : List ℕ) × HasText name 0 bytes told × IsRefusedText bytes refusal.NotToml
HasManifestRefusal name told (refusal.At kind key) = (bytes : List ℕ) × HasText name 0 bytes told × IsRefusedText bytes (refusal.At kind key)
HasManifestRefusal name told refusal.Shelf = Unit {0}
HasManifestRefusal name told refusal.Memory = Unit {0}
