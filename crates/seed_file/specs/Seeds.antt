-- The seeds that the rows of a seed file are, and which row is at fault.
use Rattle.std.specs.Prelude.{◌≡◌, ◌≢◌, ◌⊎◌, ℕ, ◌+◌, bytes_eq, List, [], ◌∷◌, ◌++◌, Option, Some, None, slice_get, if◌then◌else◌}
use Rattle.cobol_syntax.specs.declared.program.Program.{Program}
use Rattle.csv.specs.Reading.{AreRecords, default_config, strip_bom}
use Rattle.csv.specs.declared.parser.State.TheVariants as st
use Rattle.data_layout.specs.declared.item.Item.{Item}
use Rattle.data_layout.specs.declared.item.Layout.{Layout}
use Rattle.data_layout.specs.declared.portfolio.Portfolio.{Portfolio}
use Rattle.item_seeds.specs.Names.{named_item}
use Rattle.item_seeds.specs.Seeds.{year_seeds, plain_seeds}
use Rattle.year_labels.specs.declared.label.Seed.{Seed}
use Rattle.seed_file.specs.Rows.{header, IsRow}
use Rattle.seed_file.specs.declared.file.Found.{Found}
use Rattle.seed_file.specs.declared.file.SeedFault.{SeedFault}
use Rattle.seed_file.specs.declared.file.SeedFault.TheVariants as fault
use Rattle.seed_file.specs.declared.row.Saying.{Saying}
use Rattle.seed_file.specs.declared.row.Saying.TheVariants as saying
use Rattle.seed_file.specs.declared.row.SeedRow.{SeedRow}

-- the layout of the program of that name
abbrev pub layout_of : List Program → List Layout → List ℕ → Option Layout
layout_of [] layouts name = None
layout_of (program ∷ programs) [] name = None
layout_of (program ∷ programs) (layout ∷ layouts) name =
    if bytes_eq program.id name then Some layout else layout_of programs layouts name

abbrev pub item_at : Layout → Option ℕ → Option Item
item_at layout None = None
item_at layout (Some number) = slice_get layout.items number

-- the one item that a text means in a layout
abbrev pub item_in : Option Layout → List ℕ → Option Item
item_in None text = None
item_in (Some layout) text = item_at layout (named_item layout text)

-- what is said of an item
abbrev pub seeds_said : Saying → Item → ℕ → Option (List Seed)
seeds_said (saying.Year digit) item row = year_seeds item digit row
seeds_said saying.Plain item row = plain_seeds item row

abbrev pub seeds_by : Option Item → Saying → ℕ → Option (List Seed)
seeds_by None said row = None
seeds_by (Some item) said row = seeds_said said item row

-- the seeds of a row of that number, if its item is known and can have them
abbrev pub seeds_of : Portfolio → ℕ → SeedRow → Option (List Seed)
seeds_of p number row = seeds_by (item_in (layout_of p.programs p.layouts row.program) row.item) row.saying number

-- records from that number on are rows with these seeds
abbrev pub AreSeeds : Portfolio → ℕ → List (List (List ℕ)) → List Seed → Type 0
AreSeeds p number [] seeds = seeds ≡ []
AreSeeds p number (fields ∷ records) seeds =
    (row : SeedRow) × (front : List Seed) × (rest : List Seed)
    × IsRow fields row × (seeds_of p number row ≡ Some front) × AreSeeds p (number + 1) records rest × (seeds ≡ front ++ rest)

-- the record of that number is no row, or its item is unknown
abbrev pub IsRowFault : Portfolio → ℕ → List (List ℕ) → SeedFault → Type 0
IsRowFault p number fields (fault.RowShape row) = (row ≡ number) × ((r : SeedRow) → IsRow fields r → ⊥)
IsRowFault p number fields (fault.SeedUnknown row) = (row ≡ number) × ((r : SeedRow) × IsRow fields r × (seeds_of p number r ≡ None))
IsRowFault p number fields fault.Memory = ⊥

-- the first record at fault
abbrev pub IsFirstFault : Portfolio → ℕ → List (List (List ℕ)) → SeedFault → Type 0
IsFirstFault p number [] fault = ⊥
IsFirstFault p number (fields ∷ records) fault =
    IsRowFault p number fields fault
    ⊎ ((row : SeedRow) × (front : List Seed) × IsRow fields row × (seeds_of p number row ≡ Some front) × IsFirstFault p (number + 1) records fault)

-- the first record is the header, and those after it are rows with these seeds
abbrev pub AreFileSeeds : Portfolio → List (List (List ℕ)) → List Seed → Type 0
AreFileSeeds p [] seeds = ⊥
AreFileSeeds p (first ∷ records) seeds = (first ≡ header) × AreSeeds p 2 records seeds

-- without the header the first record is no row
abbrev pub IsFileFault : Portfolio → List (List (List ℕ)) → SeedFault → Type 0
IsFileFault p [] f = f ≡ fault.RowShape 1
IsFileFault p (first ∷ records) f = ((first ≢ header) × (f ≡ fault.RowShape 1)) ⊎ ((first ≡ header) × IsFirstFault p 2 records f)

-- these are the records of the text; a byte order mark at its front is none of its bytes
abbrev pub HasRecords : List ℕ → List (List (List ℕ)) → Type 0
HasRecords text records = AreRecords default_config st.StartRecord (strip_bom text) records

-- the seeds of a text
abbrev pub IsSeedFile : Portfolio → List ℕ → List Seed → Type 0
IsSeedFile p text seeds = (records : List (List (List ℕ))) × HasRecords text records × AreFileSeeds p records seeds

-- why a text has none; want of memory says nothing
abbrev pub HasSeedFault : Portfolio → List ℕ → SeedFault → Type 0
HasSeedFault p text (fault.RowShape row) = (records : List (List (List ℕ))) × HasRecords text records × IsFileFault p records (fault.RowShape row)
HasSeedFault p text (fault.SeedUnknown row) = (records : List (List (List ℕ))) × HasRecords text records × IsFileFault p records (fault.SeedUnknown row)
HasSeedFault p text fault.Memory = Unit {0}

-- the steps of reading: each fault as it is, and want of memory says nothing
abbrev pub IsFaultOfFile : Portfolio → List (List (List ℕ)) → SeedFault → Type 0
IsFaultOfFile p records (fault.RowShape row) = IsFileFault p records (fault.RowShape row)
IsFaultOfFile p records (fault.SeedUnknown row) = IsFileFault p records (fault.SeedUnknown row)
IsFaultOfFile p records fault.Memory = Unit {0}

abbrev pub IsFaultOfRows : Portfolio → ℕ → List (List (List ℕ)) → SeedFault → Type 0
IsFaultOfRows p number records (fault.RowShape row) = IsFirstFault p number records (fault.RowShape row)
IsFaultOfRows p number records (fault.SeedUnknown row) = IsFirstFault p number records (fault.SeedUnknown row)
IsFaultOfRows p number records fault.Memory = Unit {0}

abbrev pub IsFaultOfRow : Portfolio → ℕ → List (List ℕ) → SeedFault → Type 0
IsFaultOfRow p number fields (fault.RowShape row) = IsRowFault p number fields (fault.RowShape row)
IsFaultOfRow p number fields (fault.SeedUnknown row) = IsRowFault p number fields (fault.SeedUnknown row)
IsFaultOfRow p number fields fault.Memory = Unit {0}

-- there are no seeds
abbrev pub IsUnknown : Option (List Seed) → ℕ → SeedFault → Type 0
IsUnknown seeds number (fault.RowShape row) = ⊥
IsUnknown seeds number (fault.SeedUnknown row) = (row ≡ number) × (seeds ≡ None)
IsUnknown seeds number fault.Memory = Unit {0}

-- with the seeds of one more row
abbrev pub with_seeds : Found → List Seed → Found
with_seeds found seeds = record { seeds = found.seeds ++ seeds; number = found.number + 1 }

-- a row has seeds, and they are added
abbrev pub AreAdded : Option (List Seed) → Found → Found → Type 0
AreAdded more before now = (front : List Seed) × (more ≡ Some front) × (now ≡ with_seeds before front)

-- the record is a row with seeds, and they are added
abbrev pub IsAdded : Portfolio → List (List ℕ) → Found → Found → Type 0
IsAdded p fields before now = (row : SeedRow) × IsRow fields row × AreAdded (seeds_of p before.number row) before now
