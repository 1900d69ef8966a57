-- Stretches of bytes that bear the same labels.
use Rattle.std.specs.Prelude.{◌≡◌, ◌⊎◌, ◌↔◌, ◌+◌, ◌<◌, ◌≤◌, List, [], ◌∷◌, Contains}
use Rattle.std.specs.List.Sorted.{IsStrictlySortedBy}
use Rattle.y2k_base.specs.declared.place.BytePlace.{BytePlace}
use Rattle.year_labels.specs.declared.label.Fact.{Fact}
use Rattle.year_labels.specs.declared.label.Label.{Label}
use Rattle.year_labels.specs.declared.stretch.Stretch.{Stretch}
use Rattle.year_labels.specs.Order.{label_cmp}

-- the place is a byte of the stretch
abbrev pub IsByteOf : Stretch → BytePlace → Type 0
IsByteOf s place = (place.area ≡ s.area) × (s.first ≤ place.offset) × (place.offset < s.first + s.length)

-- the fact is that a byte of the stretch bears one of its labels
abbrev pub Says : Stretch → Fact → Type 0
Says s f = IsByteOf s f.place × Contains s.labels f.label

abbrev pub OneSays : List Stretch → Fact → Type 0
OneSays stretches f = (s : Stretch) × Contains stretches s × Says s f

-- the stretch has bytes and labels, and its labels are in order
pub record IsFull (s : Stretch) : Type 0 where
  pub long : 0 < s.length
  pub labelled : (label : Label) × Contains s.labels label
  pub ordered : IsStrictlySortedBy label_cmp s.labels

-- the first stretch ends before the second begins, and where it ends just before, their labels are unlike
abbrev pub IsFollowedBy : Stretch → Stretch → Type 0
IsFollowedBy s t = (s.area.0 < t.area.0) ⊎ ((s.area ≡ t.area) × ((s.first + s.length < t.first) ⊎ ((s.first + s.length ≡ t.first) × (s.labels ≡ t.labels → ⊥))))

-- each stretch is followed by the next
abbrev pub AreInRow : List Stretch → Type 0
AreInRow [] = Unit {0}
AreInRow (s ∷ []) = Unit {0}
AreInRow (s ∷ t ∷ more) = IsFollowedBy s t × AreInRow (t ∷ more)

-- the stretches say just these facts, stand in order of places, and are as long as can be
pub record AreStretchesOf (facts : List Fact) (stretches : List Stretch) : Type 0 where
  pub full : (s : Stretch) → Contains stretches s → IsFull s
  pub row : AreInRow stretches
  pub same : (f : Fact) → Contains facts f ↔ OneSays stretches f

-- While facts are read in order, the last byte is kept aside.

-- the stretch ends before the other begins, or where it begins
abbrev pub EndsBefore : Stretch → Stretch → Type 0
EndsBefore s t = (s.area.0 < t.area.0) ⊎ ((s.area ≡ t.area) × (s.first + s.length ≤ t.first))

-- these facts have been read: the stretches have all but the last byte
pub record AreRead (facts : List Fact) (stretches : List Stretch) (byte : Stretch) : Type 0 where
  pub full : (s : Stretch) → Contains stretches s → IsFull s
  pub row : AreInRow stretches
  pub last : IsFull byte
  pub single : byte.length ≡ 1
  pub after : (s : Stretch) → Contains stretches s → EndsBefore s byte
  pub same : (f : Fact) → Contains facts f ↔ (OneSays stretches f ⊎ Says byte f)

-- the byte stands just behind the stretch and bears the same labels
abbrev pub IsContinuedBy : Stretch → Stretch → Type 0
IsContinuedBy s byte = ((s.area ≡ byte.area) × (s.first + s.length ≡ byte.first)) × (s.labels ≡ byte.labels)

-- the byte of a fact, of which no other is known
abbrev pub byte_of : Fact → Stretch
byte_of f = record { area = f.place.area; first = f.place.offset; length = 1; labels = f.label ∷ [] }
