-- The tables of cuts of areas: the years of each, in their modes.
use Rattle.std.specs.Prelude.{◌≡◌, ℕ, ◌+◌, ◌<◌, ◌≤◌, ◌==◌, ◌++◌, Bool, List, [], ◌∷◌, length, map, filter, All, slice_index, slice_index_or, slice_set}
use Rattle.y2k_base.specs.declared.place.AreaId.{AreaId}
use Rattle.y2k_base.specs.declared.place.BytePlace.{BytePlace}
use Rattle.year_labels.specs.declared.label.Fact.{Fact}
use Rattle.year_pairs.specs.declared.year.Year.{Year}
use Rattle.year_pairs.specs.declared.year.YearKind.{YearKind}
use Rattle.year_pairs.specs.declared.year.YearKind.TheVariants as years
use Rattle.year_pairs.specs.Years.{width, AreInOrder, AreYearsOf}
use Rattle.year_pairs.specs.Lone.{AreCovered}
use Rattle.window_modes.specs.declared.modes.YearMode.{YearMode}
use Rattle.year_image.specs.Piece.{Piece, size}
use Rattle.year_image.specs.Marks.{Still, marks}
use Rattle.file_convert.specs.declared.cut.Cut.{Cut}
use Rattle.file_convert.specs.declared.cut.Cuts.{Cuts}
use Rattle.file_convert.specs.declared.cut.CutKind.{CutKind}
use Rattle.file_convert.specs.declared.cut.CutKind.TheVariants as cuts
use Rattle.file_convert.specs.Cuts.{piece_of, pieces, IsFitting, IsInOrder}
use Rattle.plan_images.specs.Marks.{IsMark, IsLabelled}

abbrev pub kind_of : YearKind → CutKind
kind_of years.Pair = cuts.Pair
kind_of (years.Packed digits unit) = cuts.Packed digits unit

-- the cut of a year
abbrev pub cut_of : YearMode → Cut
cut_of mode = record { offset = mode.year.place.offset; kind = kind_of mode.year.kind; pivot = mode.pivot }

abbrev pub is_in : ℕ → YearMode → Bool
is_in area mode = mode.year.place.area.0 == area

-- the cuts of the years of an area
abbrev pub cuts_in : ℕ → List YearMode → List Cut
cuts_in area modes = map cut_of (filter (is_in area) modes)

-- the table of an area of that length
abbrev pub table_of : List YearMode → ℕ → ℕ → Cuts
table_of modes area n = record { length = n; list = cuts_in area modes }

-- byte `offset` of the area of that number
abbrev pub byte_at : ℕ → ℕ → BytePlace
byte_at area offset = record { area = record { 0 = area }; offset = offset }

-- the years of modes
abbrev pub years_of : List YearMode → List Year
years_of modes = map (λ mode. mode.year) modes

-- What is asked of areas of these lengths, by their numbers, and of the years in them.

-- an area has a byte, and at most 65,535
abbrev pub IsLength : ℕ → Type 0
IsLength n = (1 ≤ n) × (n ≤ 65535)

-- the year lies in an area; if it is of a packed number, within its digits, and the image of the number has at most 18
-- digits; its pivot is from 1 to 99
pub record IsPlaced (lengths : List ℕ) (mode : YearMode) : Type 0 where
  pub area : mode.year.place.area.0 < length lengths
  pub ends : mode.year.place.offset + width mode.year.kind ≤ slice_index lengths mode.year.place.area.0
  pub fits : IsFitting (piece_of (cut_of mode))

pub record AreFit (lengths : List ℕ) (modes : List YearMode) : Type 0 where
  pub bounded : All IsLength lengths
  pub placed : All (IsPlaced lengths) modes
  pub ordered : AreInOrder (years_of modes)

-- What is known of tables.

-- each byte of so many has the mark that the years say
abbrev pub AreMarksOf : List YearMode → ℕ → ℕ → List Piece → Type 0
AreMarksOf modes area n ps = (offset : ℕ) → offset < n → IsMark modes (byte_at area offset) (slice_index_or (marks ps) offset Still)

-- the cuts of an area of that length: their pieces are the only ones with these marks
pub record IsTableOf (modes : List YearMode) (area n : ℕ) (table : Cuts) : Type 0 where
  pub cuts : table ≡ table_of modes area n
  pub ordered : IsInOrder table
  pub long : size (pieces table) ≡ n
  pub marked : AreMarksOf modes area n (pieces table)
  pub only : (ps : List Piece) → size ps ≡ n → AreMarksOf modes area n ps → ps ≡ pieces table

-- of no area
abbrev pub no_cuts : Cuts
no_cuts = record { length = 0; list = [] }

-- While they are filled.

abbrev pub empty : ℕ → Cuts
empty n = record { length = n; list = [] }

-- the table of that number has one cut more
abbrev pub with_cut : List Cuts → ℕ → Cut → List Cuts
with_cut tables area cut =
    let table = slice_index_or tables area no_cuts in
    slice_set tables area (record { length = table.length; list = table.list ++ cut ∷ [] })

-- the cuts of an area
abbrev pub cuts_at : List Cuts → AreaId → Cuts
cuts_at tables area = slice_index_or tables area.0 no_cuts

-- one table for each area, by their numbers
abbrev pub AreTables : List ℕ → List YearMode → List Cuts → Type 0
AreTables lengths modes tables = (length tables ≡ length lengths) × ((area : ℕ) → area < length lengths → slice_index_or tables area no_cuts ≡ table_of modes area (slice_index lengths area))

-- with what is known of each
pub record AreImagesOf (lengths : List ℕ) (modes : List YearMode) (tables : List Cuts) : Type 0 where
  pub long : length tables ≡ length lengths
  pub each : (area : AreaId) → area.0 < length lengths → IsTableOf modes area.0 (slice_index lengths area.0) (cuts_at tables area)

-- where each year of a labelling stands whole, and the modes are those of its years, each byte of an area has the mark that
-- its labels say
abbrev pub AreLabelled : List YearMode → List Cuts → Type 0
AreLabelled modes tables = (facts : List Fact) → AreYearsOf facts (years_of modes) → AreCovered facts → (area : AreaId) → area.0 < length tables →
    (offset : ℕ) → offset < (cuts_at tables area).length → IsLabelled facts modes (byte_at area.0 offset) (slice_index_or (marks (pieces (cuts_at tables area))) offset Still)
