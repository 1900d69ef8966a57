-- Bytes of a year that lack their neighbours.
use Rattle.std.specs.Prelude.{◌≡◌, ◌⊎◌, ◌↔◌, ℕ, ◌+◌, ◌-◌, ◌/◌, ◌<◌, ◌≤◌, List, [], ◌∷◌, ◌++◌, take, Contains}
use Rattle.y2k_base.specs.declared.place.BytePlace.{BytePlace}
use Rattle.year_labels.specs.declared.label.Fact.{Fact}
use Rattle.year_labels.specs.declared.label.Label.{Label}
use Rattle.year_labels.specs.declared.label.Label.TheVariants as labels
use Rattle.year_labels.specs.Facts.{fact_of}
use Rattle.year_labels.specs.Order.{IsAscending}
use Rattle.year_pairs.specs.declared.year.Year.{Year}
use Rattle.year_pairs.specs.Years.{width, byte_of, IsYear, place_after, place_before}

-- the byte behind is the next of the year, where the year goes on
abbrev pub HasNext : List Fact → BytePlace → Label → Type 0
HasNext facts place labels.Tens = Contains facts (fact_of (place_after place 1) labels.Units)
HasNext facts place labels.Units = Unit {0}
HasNext facts place labels.Plain = Unit {0}
HasNext facts place (labels.Packed digits unit k) =
    (k ≡ digits / 2) ⊎ ((k < digits / 2) × Contains facts (fact_of (place_after place 1) (labels.Packed digits unit (k + 1))))

-- the byte in front is the one before it of the year, unless the year begins here
abbrev pub HasFront : List Fact → BytePlace → Label → Type 0
HasFront facts place labels.Tens = Unit {0}
HasFront facts place labels.Units = (1 ≤ place.offset) × Contains facts (fact_of (place_before place) labels.Tens)
HasFront facts place labels.Plain = Unit {0}
HasFront facts place (labels.Packed digits unit k) =
    (k ≡ 0) ⊎ ((1 ≤ k) × (1 ≤ place.offset) × Contains facts (fact_of (place_before place) (labels.Packed digits unit (k - 1))))

abbrev pub HasNeighbours : List Fact → Fact → Type 0
HasNeighbours facts f = HasNext facts f.place f.label × HasFront facts f.place f.label

-- all the bytes that lack a neighbour, in order of places
pub record AreLoneBytesOf (facts lone : List Fact) : Type 0 where
  pub ordered : IsAscending lone
  pub same : (f : Fact) → Contains lone f ↔ (Contains facts f × (HasNeighbours facts f → ⊥))

-- the byte belongs to a year that stands there
abbrev pub IsByteOfYear : List Fact → Fact → Type 0
IsByteOfYear facts f = (y : Year) × (k : ℕ) × IsYear facts y × (k < width y.kind) × (f ≡ byte_of y k)

-- each byte with the label of a year belongs to a year
abbrev pub AreCovered : List Fact → Type 0
AreCovered facts = (f : Fact) → Contains facts f → (f.label ≡ labels.Plain → ⊥) → IsByteOfYear facts f

-- While the facts are read in order.

-- those of the first facts; each other one of them has its neighbours
pub record AreLoneUpTo (facts : List Fact) (count : ℕ) (lone : List Fact) : Type 0 where
  pub ordered : IsAscending lone
  pub sound : (f : Fact) → Contains lone f → Contains (take count facts) f × (HasNeighbours facts f → ⊥)
  pub complete : (f : Fact) → Contains (take count facts) f → HasNeighbours facts f ⊎ Contains lone f

-- the fact is added, or its byte has its neighbours
abbrev pub IsAddedAlone : List Fact → Fact → List Fact → List Fact → Type 0
IsAddedAlone facts f old new = ((HasNeighbours facts f → ⊥) × (new ≡ old ++ f ∷ [])) ⊎ (HasNeighbours facts f × (new ≡ old))
