-- The years of a labelling.
use Rattle.std.specs.Prelude.{◌≡◌, ◌⊎◌, ◌↔◌, ℕ, zero, suc, ◌+◌, ◌-◌, ◌/◌, ◌<◌, ◌≤◌, List, [], ◌∷◌, ◌++◌, take, Contains}
use Rattle.std.specs.List.{AllByRecursion}
use Rattle.y2k_base.specs.declared.place.BytePlace.{BytePlace}
use Rattle.year_labels.specs.declared.label.Fact.{Fact}
use Rattle.year_labels.specs.declared.label.Label.{Label}
use Rattle.year_labels.specs.declared.label.Label.TheVariants as labels
use Rattle.year_labels.specs.Facts.{fact_of}
use Rattle.year_pairs.specs.declared.year.Year.{Year}
use Rattle.year_pairs.specs.declared.year.YearKind.{YearKind}
use Rattle.year_pairs.specs.declared.year.YearKind.TheVariants as kinds

-- how many bytes a year has
abbrev pub width : YearKind → ℕ
width kinds.Pair = 2
width (kinds.Packed digits unit) = digits / 2 + 1

-- the label of byte k of a year
abbrev pub label_at : YearKind → ℕ → Label
label_at kinds.Pair zero = labels.Tens
label_at kinds.Pair (suc k) = labels.Units
label_at (kinds.Packed digits unit) k = labels.Packed digits unit k

abbrev pub place_after : BytePlace → ℕ → BytePlace
place_after place k = record { area = place.area; offset = place.offset + k }

abbrev pub place_before : BytePlace → BytePlace
place_before place = record { area = place.area; offset = place.offset - 1 }

-- byte k of a year, and its label
abbrev pub byte_of : Year → ℕ → Fact
byte_of year k = fact_of (place_after year.place k) (label_at year.kind k)

-- the year stands there: each of its bytes bears its label
abbrev pub IsYear : List Fact → Year → Type 0
IsYear facts year = (k : ℕ) → k < width year.kind → Contains facts (byte_of year k)

-- the first year ends before the second begins
abbrev pub EndsBefore : Year → Year → Type 0
EndsBefore y z = (y.place.area.0 < z.place.area.0) ⊎ ((y.place.area ≡ z.place.area) × (y.place.offset + width y.kind ≤ z.place.offset))

-- each year ends before those after it
abbrev pub AreInOrder : List Year → Type 0
AreInOrder [] = Unit {0}
AreInOrder (y ∷ ys) = AllByRecursion (EndsBefore y) ys × AreInOrder ys

-- all the years that stand there, in order of places
pub record AreYearsOf (facts : List Fact) (years : List Year) : Type 0 where
  pub ordered : AreInOrder years
  pub same : (y : Year) → Contains years y ↔ IsYear facts y

-- the bytes are those of areas of at most 65,535 bytes
abbrev pub AreInAreas : List Fact → Type 0
AreInAreas facts = (f : Fact) → Contains facts f → f.place.offset ≤ 65535

-- While the facts are read in order.

-- those of the years that begin with one of the first facts
pub record AreYearsUpTo (facts : List Fact) (count : ℕ) (years : List Year) : Type 0 where
  pub ordered : AreInOrder years
  pub sound : (y : Year) → Contains years y → IsYear facts y × Contains (take count facts) (byte_of y 0)
  pub complete : (y : Year) → IsYear facts y → Contains (take count facts) (byte_of y 0) → Contains years y

-- the year that begins with the fact is added, or none does
abbrev pub IsAdded : List Fact → Fact → List Year → List Year → Type 0
IsAdded facts f old new = ((y : Year) × IsYear facts y × (f ≡ byte_of y 0) × (new ≡ old ++ y ∷ []))
    ⊎ (((y : Year) → IsYear facts y → f ≡ byte_of y 0 → ⊥) × (new ≡ old))
