-- The rows of a seed file: what each says of an item.
use Rattle.std.specs.Prelude.{◌≡◌, ℕ, ◌≤◌, Bool, nat_le, List, [], ◌∷◌, map, codes, decimal, Option, Some, None, unwrap_or, if◌then◌else◌}
use Rattle.csv.specs.Records.{field_at}
use Rattle.std.specs.Char.{to_ascii_uppercase}
use Rattle.seed_file.specs.declared.row.Saying.{Saying}
use Rattle.seed_file.specs.declared.row.Saying.TheVariants as saying
use Rattle.seed_file.specs.declared.row.SeedRow.{SeedRow}

-- the first row
abbrev pub header : List (List ℕ)
header = codes "program" ∷ codes "item" ∷ codes "kind" ∷ codes "digit" ∷ []

-- a number from 1 to 65535 is written so in decimal
abbrev pub IsDigit : List ℕ → ℕ → Type 0
IsDigit text number = (text ≡ decimal number) × (1 ≤ number) × (number ≤ 65535)

-- a kind and a digit say this of an item
abbrev pub IsSaying : List ℕ → List ℕ → Saying → Type 0
IsSaying kind digit (saying.Year number) = (kind ≡ codes "year") × IsDigit digit number
IsSaying kind digit saying.Plain = (kind ≡ codes "plain") × (digit ≡ [])

-- the name of the program in capitals, the item as it is written, and what is said of it
abbrev pub IsRow : List (List ℕ) → SeedRow → Type 0
IsRow (program ∷ item ∷ kind ∷ digit ∷ []) row =
    (row.program ≡ map to_ascii_uppercase program) × (row.item ≡ item) × IsSaying kind digit row.saying
IsRow _ row = ⊥

abbrev pub IsNotFour : List (List ℕ) → Type 0
IsNotFour (program ∷ item ∷ kind ∷ digit ∷ []) = ⊥
IsNotFour _ = Unit {0}

abbrev pub IsDigitRead : List ℕ → Option ℕ → Type 0
IsDigitRead text None = (number : ℕ) → IsDigit text number → ⊥
IsDigitRead text (Some number) = IsDigit text number

abbrev pub IsSayingRead : List ℕ → List ℕ → Option Saying → Type 0
IsSayingRead kind digit None = (said : Saying) → IsSaying kind digit said → ⊥
IsSayingRead kind digit (Some said) = IsSaying kind digit said

-- the row that fields are, or that they are none
abbrev pub IsReading : List (List ℕ) → Option SeedRow → Type 0
IsReading fields None = (row : SeedRow) → IsRow fields row → ⊥
IsReading fields (Some row) = IsRow fields row

-- the field at a place, or nothing
abbrev pub field : List (List ℕ) → ℕ → List ℕ
field fields place = unwrap_or (field_at fields place) []

-- a number from 1 on, where the test holds
abbrev pub digit_if : ℕ → Bool → Option ℕ
digit_if number is_digit = if is_digit then (if nat_le 1 number then Some number else None) else None
