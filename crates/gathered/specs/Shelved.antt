-- The portfolio that a shelf holds for a manifest, and why it holds none.
use Rattle.std.specs.Prelude.{◌≡◌, ◌⊎◌, ℕ, ◌+◌, List, [], ◌∷◌, ◌++◌, map, length, Option, Some}
use Rattle.y2k_base.specs.declared.text.Text.{Text}
use Rattle.y2k_base.specs.declared.text.TextRole.TheVariants as role
use Rattle.data_layout.specs.declared.portfolio.Portfolio.{Portfolio}
use Rattle.fixed_format.specs.Columns.{lines}
use Rattle.fixed_format.specs.Joined.{faults_in}
use Rattle.portfolio.specs.declared.manifest.Manifest.{Manifest}
use Rattle.portfolio.specs.declared.manifest.Named.{Named}
use Rattle.program_reader.specs.declared.fault.ReadFault.TheVariants as read
use Rattle.program_texts.specs.Texts.{with_text, words_of, AreWhole, IsRefusedText}
use Rattle.shelf.specs.Causes.{Rose}
use Rattle.shelf.specs.Contents.{Files}
use Rattle.text_load.specs.Texts.{HasText, HasLoadFault}
use Rattle.text_load.specs.declared.LoadFault.TheVariants as load
use Rattle.gathered.specs.Portfolios.{IsPortfolio, IsRefusedOf}
use Rattle.gathered.specs.declared.fault.GatherFault.{GatherFault}
use Rattle.gathered.specs.declared.fault.GatherFault.TheVariants as fault
use Rattle.gathered.specs.declared.shelved.Listed.{Listed}
use Rattle.gathered.specs.declared.shelved.Shelved.{Shelved}

abbrev pub book_of : Named → Listed
book_of named = record { name = named.name; key = named.key; role = role.Book }

abbrev pub program_of : List ℕ → Listed
program_of name = record { name = name; key = []; role = role.Program }

-- the texts of a manifest: its copybooks, then its programs
abbrev pub listed_in : Manifest → List Listed
listed_in manifest = map book_of manifest.copybooks ++ map program_of manifest.programs

-- the shelf holds the text under the folder's name and its own, and with those before it the texts aren't too large
abbrev pub IsText : List ℕ → ℕ → Option Files → Listed → Text → Type 0
IsText folder used told l text =
    (text ≡ record { name = l.name; key = l.key; role = l.role; bytes = text.bytes }) × HasText (folder ++ l.name) used text.bytes told

-- the same of each text, one after the other
abbrev pub AreTexts : List ℕ → ℕ → Option Files → List Listed → List Text → Type 0
AreTexts folder used told [] [] = Unit {0}
AreTexts folder used told [] (text ∷ texts) = ⊥
AreTexts folder used told (l ∷ ls) [] = ⊥
AreTexts folder used told (l ∷ ls) (text ∷ texts) =
    IsText folder used told l text × AreTexts folder (used + length text.bytes) told ls texts

-- the shelf holds these texts, which are this portfolio
abbrev pub IsGathered : List ℕ → ℕ → Option Files → Manifest → List Text → Portfolio → Type 0
IsGathered folder used told manifest texts p =
    AreTexts folder used told (listed_in manifest) texts × IsPortfolio texts (Some manifest.files) p

-- a text isn't loaded: a missing one and one that is too large go by the manifest's name, the shelf's fault by that in the
-- call
abbrev pub IsUnloadedAs : List ℕ → ℕ → Option Files → List ℕ → GatherFault → Type 0
IsUnloadedAs name used told listed (fault.Refused refused) = ⊥
IsUnloadedAs name used told listed (fault.Missing text) = (text ≡ listed) × HasLoadFault name used told load.Missing
IsUnloadedAs name used told listed (fault.TooLarge text) = (text ≡ listed) × HasLoadFault name used told load.TooLarge
IsUnloadedAs name used told listed (fault.FileUnknown file) = ⊥
IsUnloadedAs name used told listed (fault.RecordLengths file) = ⊥
IsUnloadedAs name used told listed (fault.Shelf call) = call ≡ name
IsUnloadedAs name used told listed fault.Memory = Unit {0}

abbrev pub IsUnloaded : List ℕ → ℕ → Option Files → Listed → GatherFault → Type 0
IsUnloaded folder used told l fault = IsUnloadedAs (folder ++ l.name) used told l.name fault

-- the first fault in the lines of the text of that number
abbrev pub IsLineFault : ℕ → Text → GatherFault → Type 0
IsLineFault number text (fault.Refused refused) = IsRefusedText number text (read.Refused refused)
IsLineFault number text (fault.Missing name) = ⊥
IsLineFault number text (fault.TooLarge name) = ⊥
IsLineFault number text (fault.FileUnknown name) = ⊥
IsLineFault number text (fault.RecordLengths name) = ⊥
IsLineFault number text (fault.Shelf name) = ⊥
IsLineFault number text fault.Memory = Unit {0}

-- a text isn't loaded, or it is and its lines have a fault
abbrev pub IsTextFault : List ℕ → ℕ → Option Files → ℕ → Listed → GatherFault → Type 0
IsTextFault folder used told number l fault =
    IsUnloaded folder used told l fault ⊎ ((text : Text) × IsText folder used told l text × IsLineFault number text fault)

-- the first text with a fault has this one
abbrev pub HasTextFault : List ℕ → ℕ → Option Files → ℕ → List Listed → GatherFault → Type 0
HasTextFault folder used told number [] fault = ⊥
HasTextFault folder used told number (l ∷ ls) fault =
    IsTextFault folder used told number l fault
    ⊎ ((text : Text) × IsText folder used told l text × (faults_in (lines text.bytes) ≡ []) × HasTextFault folder (used + length text.bytes) told (number + 1) ls fault)

-- the texts, then the programs and their files
abbrev pub IsGatherFault : List ℕ → ℕ → Option Files → Manifest → GatherFault → Type 0
IsGatherFault folder used told manifest fault =
    HasTextFault folder used told 0 (listed_in manifest) fault
    ⊎ ((texts : List Text) × AreTexts folder used told (listed_in manifest) texts × AreWhole texts × IsRefusedOf (words_of texts) (Some manifest.files) fault)

-- why a shelf holds no portfolio; want of memory says nothing
abbrev pub HasGatherFault : List ℕ → ℕ → Option Files → Manifest → GatherFault → Type 0
HasGatherFault folder used told manifest (fault.Refused refused) = IsGatherFault folder used told manifest (fault.Refused refused)
HasGatherFault folder used told manifest (fault.Missing name) = IsGatherFault folder used told manifest (fault.Missing name)
HasGatherFault folder used told manifest (fault.TooLarge name) = IsGatherFault folder used told manifest (fault.TooLarge name)
HasGatherFault folder used told manifest (fault.FileUnknown name) = IsGatherFault folder used told manifest (fault.FileUnknown name)
HasGatherFault folder used told manifest (fault.RecordLengths name) = IsGatherFault folder used told manifest (fault.RecordLengths name)
HasGatherFault folder used told manifest (fault.Shelf name) = IsGatherFault folder used told manifest (fault.Shelf name)
HasGatherFault folder used told manifest fault.Memory = Unit {0}

-- where the fault is the shelf's, its count rose
abbrev pub RoseWith : GatherFault → ℕ → ℕ → Type 0
RoseWith (fault.Shelf name) before now = Rose before now
RoseWith (fault.Refused refused) before now = Unit {0}
RoseWith (fault.Missing name) before now = Unit {0}
RoseWith (fault.TooLarge name) before now = Unit {0}
RoseWith (fault.FileUnknown name) before now = Unit {0}
RoseWith (fault.RecordLengths name) before now = Unit {0}
RoseWith fault.Memory before now = Unit {0}

-- what was read, with one more text
abbrev pub with_loaded : Shelved → Text → Shelved
with_loaded shelved text = record {
  texts = shelved.texts ++ text ∷ [];
  words = with_text shelved.words shelved.number text;
  number = shelved.number + 1;
  used = shelved.used + length text.bytes;
}

-- one more text was read, without fault
abbrev pub IsRead : List ℕ → Option Files → Listed → Shelved → Shelved → Type 0
IsRead folder told l before now =
    (text : Text) × IsText folder before.used told l text × (faults_in (lines text.bytes) ≡ []) × (now ≡ with_loaded before text)
