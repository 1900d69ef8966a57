-- The line that each refusal of a manifest and of its portfolio prints, and its status.
use Rattle.std.specs.Prelude.{ℕ, ◌-◌, nat_lt, List, [], ◌++◌, length, codes, decimal, string_bytes, slice_get, Option, Some, None, unwrap_or, if◌then◌else◌}
use Rattle.answers.specs.Lines.{refused_name_line, refused_place_line, shelf_fault_line}
use Rattle.gathered.specs.declared.fault.GatherFault.{GatherFault}
use Rattle.gathered.specs.declared.fault.GatherFault.TheVariants as gather
use Rattle.labelled_portfolio.specs.declared.refusal.Refusal.{Refusal}
use Rattle.labelled_portfolio.specs.declared.refusal.Refusal.TheVariants as refusals
use Rattle.manifest_load.specs.declared.open.Opened.{Opened}
use Rattle.manifest_load.specs.declared.refusal.ManifestRefusal.{ManifestRefusal}
use Rattle.manifest_load.specs.declared.refusal.ManifestRefusal.TheVariants as manifest
use Rattle.portfolio.specs.declared.manifest.Manifest.{Manifest}
use Rattle.portfolio.specs.declared.manifest.Named.{Named}
use Rattle.program_reader.specs.declared.fault.Refused.{Refused}
use Rattle.seed_load.specs.declared.refusal.SeedRefusal.{SeedRefusal}
use Rattle.seed_load.specs.declared.refusal.SeedRefusal.TheVariants as seeds
use Rattle.window_items.specs.declared.fault.WindowFault.{WindowFault}
use Rattle.window_items.specs.declared.fault.WindowFault.TheVariants as windows
use Rattle.refusal_lines.specs.Words.{key_word, kind_word}

abbrev pub refused_row_line : List ℕ → ℕ → List ℕ
refused_row_line kind row = codes "refused " ++ (kind ++ (codes " row " ++ (decimal row ++ codes "\n")))

abbrev pub book_name : Option Named → List ℕ
book_name None = []
book_name (Some named) = named.name

-- the name of the text of that number: the copybooks come before the programs
abbrev pub text_name : Manifest → ℕ → List ℕ
text_name m number =
    if nat_lt number (length m.copybooks) then book_name (slice_get m.copybooks number)
    else unwrap_or (slice_get m.programs (number - length m.copybooks)) []

abbrev pub seeds_name : Manifest → List ℕ
seeds_name m = unwrap_or m.seeds []

-- a manifest under the name that the command was given
abbrev pub manifest_line : List ℕ → ManifestRefusal → List ℕ
manifest_line main manifest.Missing = refused_name_line (codes "Missing") main
manifest_line main manifest.TooLarge = refused_name_line (codes "TooLarge") main
manifest_line main manifest.NotToml = refused_name_line (codes "NotToml") main
manifest_line main (manifest.At kind key) = refused_name_line (key_word kind) key
manifest_line main manifest.Shelf = shelf_fault_line main
manifest_line main manifest.Memory = []

abbrev pub manifest_status : ManifestRefusal → ℕ
manifest_status manifest.Shelf = 6
manifest_status manifest.Memory = 8
manifest_status _ = 3

abbrev pub place_line : Manifest → Refused → List ℕ
place_line m refused = refused_place_line (kind_word refused.kind) (text_name m refused.at.file.0) refused.at.line refused.at.column

-- a text goes by the name that the manifest gives it, and one at which the shelf failed by that of the call
abbrev pub portfolio_line : Manifest → GatherFault → List ℕ
portfolio_line m (gather.Refused refused) = place_line m refused
portfolio_line m (gather.Missing name) = refused_name_line (codes "Missing") name
portfolio_line m (gather.TooLarge name) = refused_name_line (codes "TooLarge") name
portfolio_line m (gather.FileUnknown name) = refused_name_line (codes "FileUnknown") name
portfolio_line m (gather.RecordLengths name) = refused_name_line (codes "RecordLengths") name
portfolio_line m (gather.Shelf name) = shelf_fault_line name
portfolio_line m gather.Memory = []

abbrev pub portfolio_status : GatherFault → ℕ
portfolio_status (gather.Shelf name) = 6
portfolio_status gather.Memory = 8
portfolio_status _ = 3

-- the same of the seed file; of a row its number is said
abbrev pub seeds_line : Opened → SeedRefusal → List ℕ
seeds_line opened seeds.Missing = refused_name_line (codes "Missing") (seeds_name opened.manifest)
seeds_line opened seeds.TooLarge = refused_name_line (codes "TooLarge") (seeds_name opened.manifest)
seeds_line opened (seeds.RowShape row) = refused_row_line (codes "RowShape") row
seeds_line opened (seeds.SeedUnknown row) = refused_row_line (codes "SeedUnknown") row
seeds_line opened seeds.Shelf = shelf_fault_line (string_bytes opened.folder ++ seeds_name opened.manifest)
seeds_line opened seeds.Memory = []

abbrev pub seeds_status : SeedRefusal → ℕ
seeds_status seeds.Shelf = 6
seeds_status seeds.Memory = 8
seeds_status _ = 3

-- a window item goes as the manifest writes it
abbrev pub window_line : WindowFault → List ℕ
window_line (windows.Unknown text) = refused_name_line (codes "WindowUnknown") text
window_line windows.Memory = []

abbrev pub window_status : WindowFault → ℕ
window_status (windows.Unknown text) = 3
window_status windows.Memory = 8

abbrev pub line_of : Opened → Refusal → List ℕ
line_of opened (refusals.Portfolio fault) = portfolio_line opened.manifest fault
line_of opened (refusals.Seeds fault) = seeds_line opened fault
line_of opened (refusals.Windows fault) = window_line fault
line_of opened refusals.Memory = []

abbrev pub status_of : Refusal → ℕ
status_of (refusals.Portfolio fault) = portfolio_status fault
status_of (refusals.Seeds fault) = seeds_status fault
status_of (refusals.Windows fault) = window_status fault
status_of refusals.Memory = 8
