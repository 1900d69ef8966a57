-- The years in the storage of a program, by the pieces of its areas.
use Rattle.std.specs.Prelude.{ℕ, ◌+◌, ◌^◌, ◌*◌, Bool, true, false, cond, ◌&&◌, ◌||◌, nat_le, nat_lt, List, [], ◌∷◌, ◌++◌, slice_index_or, pos, int_le, Option, Some, None, is_some, IsTrue}
use Rattle.std.specs.List.{list_any}
use Rattle.byte_lists.specs.Digit.{all_digits}
use Rattle.year_image.specs.Files.{AreTame}
use Rattle.year_image.specs.Image.{IsTame}
use Rattle.year_image.specs.Piece.{Piece, Keep, Pair, Packed, width}
use Rattle.program_meaning.specs.Answer.{Answer, Gives, Fails}
use Rattle.program_meaning.specs.Arithmetic.{Scaled}
use Rattle.program_meaning.specs.Files.{Disk, records_in}
use Rattle.program_meaning.specs.Kind.{Kind}
use Rattle.program_meaning.specs.Kind as kind
use Rattle.program_meaning.specs.Number.{Usage, Display, Binary, number_in}
use Rattle.program_meaning.specs.Number as number
use Rattle.program_meaning.specs.Storage.{Storage, View}

-- every area of a program is tame; an area has the pieces of its number
abbrev pub IsTameStorage : List (List Piece) → Storage → Type 0
IsTameStorage [] store = Unit {0}
IsTameStorage (ps ∷ pss) [] = Unit {0}
IsTameStorage (ps ∷ pss) (bs ∷ store) = IsTame 48 ps bs × IsTameStorage pss store

-- every record of every file is tame; the records of a file have the pieces of its number
abbrev pub AreTameFiles : List (List Piece) → List Disk → Type 0
AreTameFiles [] disks = Unit {0}
AreTameFiles (ps ∷ pss) [] = Unit {0}
AreTameFiles (ps ∷ pss) (d ∷ disks) = AreTame ps (records_in d.records) × AreTameFiles pss disks

-- the year of a piece, by its pivot; one that gets its century has none
abbrev pub year_of : Piece → List (Option ℕ)
year_of Keep = []
year_of (Pair pivot) = pivot ∷ []
year_of (Packed digits unit pivot) = pivot ∷ []

-- the years that begin from an offset on and before another; the first piece stands at `at`
abbrev pub years_between : ℕ → ℕ → ℕ → List Piece → List (Option ℕ)
years_between at start end [] = []
years_between at start end (p ∷ ps) = cond (nat_le start at && nat_lt at end) (year_of p) [] ++ years_between (at + width p) start end ps

-- the years in what a place means at run time
abbrev pub years_in : List (List Piece) → View → List (Option ℕ)
years_in pss v = years_between 0 v.span.start (v.span.start + v.span.count) (slice_index_or pss v.span.area [])

abbrev pub years_by : List (List Piece) → Answer View → List (Option ℕ)
years_by pss (Gives v) = years_in pss v
years_by pss (Fails e) = []

-- one of them stays in a window
abbrev pub any_windowed : List (Option ℕ) → Bool
any_windowed years = list_any is_some years

-- the least year that two digits may say: the pivot, or 0
abbrev pub least : Option ℕ → ℕ
least None = 0
least (Some q) = q

-- a number from the least year to 99
abbrev pub IsYear : Option ℕ → Scaled → Type 0
IsYear pivot a = IsTrue (int_le (pos (least pivot * 10 ^ a.scale)) a.number && int_le a.number (pos (99 * 10 ^ a.scale)))

-- it is one for each of these years; a fault is none of them
abbrev pub AreYears : List (Option ℕ) → Answer Scaled → Type 0
AreYears years (Fails e) = Unit {0}
AreYears [] (Gives a) = Unit {0}
AreYears (pivot ∷ years) (Gives a) = IsYear pivot a × AreYears years (Gives a)

abbrev pub is_packed_usage : Usage → Bool
is_packed_usage Display = false
is_packed_usage number.Packed = true
is_packed_usage Binary = false

-- the bytes of a packed item, and a number
abbrev pub is_packed_number : Kind → List ℕ → Bool
is_packed_number kind.Group bs = false
is_packed_number kind.Text bs = false
is_packed_number (kind.Edited picture) bs = false
is_packed_number (kind.Number usage form) bs = is_packed_usage usage && is_some (number_in usage form bs)

-- digits alone, or a packed number
abbrev pub has_digits : Kind → List ℕ → Bool
has_digits k bs = all_digits 48 bs || is_packed_number k bs
