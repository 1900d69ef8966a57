-- What the steps do: bytes of years by place, years joined by links, classes of years marked by groups.
use Rattle.std.specs.Prelude.{◌≡◌, ◌⊎◌, ◌↔◌, ℕ, ◌+◌, ◌<◌, Bool, false, ◌||◌, not, ◌==◌, List, [], ◌∷◌, length, slice_index, slice_index_or, Option, Some, None, Contains}
use Rattle.std.specs.List.{filter}
use Rattle.std.specs.declared.cmp.Ordering.{Ordering}
use Rattle.std.specs.declared.ops.Bound.TheVariants.{Included, Excluded}
use Rattle.std.specs.Ordering.{nat_cmp, ordering_then}
use Rattle.std.specs.BTreeMap.Range.{range_contains}
use Rattle.y2k_base.specs.declared.place.AreaId.{AreaId}
use Rattle.y2k_base.specs.declared.place.BytePlace.{BytePlace}
use Rattle.y2k_base.specs.declared.place.Span.{Span}
use Rattle.year_labels.specs.declared.rule.RuleForm.{RuleForm}
use Rattle.year_labels.specs.declared.rule.View.{View}
use Rattle.year_labels.specs.Facts.{place_in}
use Rattle.year_labels.specs.Roles.{HoldsPower}
use Rattle.year_pairs.specs.declared.year.Year.{Year}
use Rattle.year_pairs.specs.declared.year.YearKind.TheVariants as kinds
use Rattle.year_pairs.specs.Years.{width, place_after}
use Rattle.label_spread.specs.Steps.{IsInSpan}
use Rattle.disjoint_sets.specs.Sets.{IsKept}
use Rattle.window_modes.specs.declared.index.YearByte.{YearByte}
use Rattle.window_modes.specs.declared.digits.YearDigit.{YearDigit}
use Rattle.window_modes.specs.declared.marks.Mark.{Mark}
use Rattle.window_modes.specs.declared.modes.WindowGroup.{WindowGroup}
use Rattle.window_modes.specs.Links.{HasByte, Shows, start}
use Rattle.window_modes.specs.declared.modes.YearMode.{YearMode}
use Rattle.window_modes.specs.Modes.{OfYear, AreLinked, IsClosed}

-- by place, then by year
abbrev pub byte_cmp : YearByte → YearByte → Ordering
byte_cmp a b = ordering_then (ordering_then (nat_cmp a.place.area.0 b.place.area.0) (nat_cmp a.place.offset b.place.offset)) (nat_cmp a.year b.year)

abbrev pub byte_at : BytePlace → ℕ → YearByte
byte_at place year = record { place = place; year = year }

-- the bytes of the years, each with the number of its year
abbrev pub IsIndexOf : List Year → List YearByte → Type 0
IsIndexOf years bytes = (b : YearByte) → Contains bytes b ↔ OfYear years b.year (λ y. HasByte y b.place)

abbrev pub is_between : AreaId → ℕ → ℕ → YearByte → Bool
is_between area from to byte =
    range_contains byte_cmp (Included (byte_at (record { area = area; offset = from }) 0)) (Excluded (byte_at (record { area = area; offset = to }) 0)) byte

abbrev pub bytes_between : AreaId → ℕ → ℕ → List YearByte → List YearByte
bytes_between area from to bytes = filter (is_between area from to) bytes

-- the list has just the digits of years that stand in a view
abbrev pub AreDigitsOf : List Year → View → List YearDigit → Type 0
AreDigitsOf years view digits = (d : YearDigit) → Contains digits d ↔ OfYear years d.year (Shows view d.power)

-- the sets are those before, joined where the relation holds
pub record Joins (R : ℕ → ℕ → Type 0) (old new : List ℕ) : Type 0 where
  pub long : length new ≡ length old
  pub joined : (keep : ℕ → Bool) → IsKept new keep ↔ (IsKept old keep × ((i j : ℕ) → R i j → keep i ≡ keep j))

-- years by their numbers
abbrev pub Between : List Year → (Year → Year → Type 0) → ℕ → ℕ → Type 0
Between years R i j = OfYear years i (λ y. OfYear years j (λ z. R y z))

-- a class that a group has: its first pivot stays
abbrev pub hit_by : Option ℕ → Bool → ℕ → Mark
hit_by None clash pivot = record { pivot = Some pivot; clash = clash }
hit_by (Some first) clash pivot = record { pivot = Some first; clash = clash || not (first == pivot) }

abbrev pub hit : Mark → ℕ → Mark
hit mark pivot = hit_by mark.pivot mark.clash pivot

-- the marks of the classes in question are hit, and no others
pub record Marks (In : ℕ → Type 0) (pivot : ℕ) (old new : List Mark) : Type 0 where
  pub long : length new ≡ length old
  pub each : (c : ℕ) (d : Mark) → c < length old →
      (In c × (slice_index_or new c d ≡ hit (slice_index_or old c d) pivot)) ⊎ ((In c → ⊥) × (slice_index_or new c d ≡ slice_index_or old c d))

-- While years are read in order.

-- the bytes of the first years
abbrev pub IsIndexUpTo : List Year → ℕ → List YearByte → Type 0
IsIndexUpTo years count bytes = (b : YearByte) → Contains bytes b ↔ ((b.year < count) × OfYear years b.year (λ y. HasByte y b.place))

-- the first bytes of the year are added
abbrev pub HasBytesUpTo : Year → ℕ → ℕ → List YearByte → List YearByte → Type 0
HasBytesUpTo y count number old new = (b : YearByte) → Contains new b ↔ (Contains old b ⊎ ((k : ℕ) × (k < count) × (byte_at (place_after y.place k) number ≡ b)))

abbrev pub year_width : Year → ℕ
year_width y = width y.kind

-- While digits are collected.

abbrev pub AddsDigits : (YearDigit → Type 0) → List YearDigit → List YearDigit → Type 0
AddsDigits P old new = (d : YearDigit) → Contains new d ↔ (Contains old d ⊎ P d)

-- the byte is one of a pair, and holds the digit of that power
abbrev pub IsPairPower : List Year → Span → List (Option ℕ) → YearByte → ℕ → Type 0
IsPairPower years span powers b power =
    OfYear years b.year (λ y. y.kind ≡ kinds.Pair) × (i : ℕ) × (i < span.length) × (b.place ≡ place_in span i) × HoldsPower powers i power

abbrev pub IsPairDigit : List Year → Span → List (Option ℕ) → YearByte → YearDigit → Type 0
IsPairDigit years span powers b d = (d.year ≡ b.year) × IsPairPower years span powers b d.power

-- the year of the byte is that of the packed number
abbrev pub IsPackedDigit : List Year → Span → ℕ → YearByte → YearDigit → Type 0
IsPackedDigit years span digits b d = (d.year ≡ b.year)
    × ((unit : ℕ) × OfYear years b.year (λ y. (y.place ≡ start span) × (y.kind ≡ kinds.Packed digits unit)) × ((d.power ≡ unit) ⊎ (d.power ≡ unit + 1)))

-- Classes of linked years, and what groups say of them.

-- the numbers are below a bound
abbrev pub AreWithin : List ℕ → ℕ → Type 0
AreWithin names count = (length names ≡ count) × ((k : ℕ) → k < count → slice_index names k < count)

-- linked years have one class, and years of one class are in the same closed sets
pub record AreClassesOf (years : List Year) (links : List RuleForm) (names : List ℕ) : Type 0 where
  pub within : AreWithin names (length years)
  pub linked : (i j : ℕ) → AreLinked years links i j → slice_index names i ≡ slice_index names j
  pub least : (i j : ℕ) (set : ℕ → Bool) → i < length years → j < length years → IsClosed years links set → slice_index names i ≡ slice_index names j → set i ≡ set j

-- the class has a year with a byte in the span
abbrev pub HasClassIn : List YearByte → List ℕ → Span → ℕ → Type 0
HasClassIn bytes names span c = (b : YearByte) × Contains bytes b × IsInSpan span b.place × (slice_index names b.year ≡ c)

-- the class has a year with a byte of an item of the group
abbrev pub HasClass : List YearByte → List ℕ → WindowGroup → ℕ → Type 0
HasClass bytes names group c = (span : Span) × Contains group.spans span × HasClassIn bytes names span c

-- the bytes are of years that have a class, of which there are so many
abbrev pub AreNumbered : List YearByte → List ℕ → ℕ → Type 0
AreNumbered bytes names count = ((b : YearByte) → Contains bytes b → b.year < length names) × AreWithin names count

-- the groups have marked their classes, one after the other
abbrev pub AreMarked : List YearByte → List ℕ → List WindowGroup → List Mark → List Mark → Type 0
AreMarked bytes names [] old new = new ≡ old
AreMarked bytes names (group ∷ groups) old new = (mid : List Mark) × Marks (HasClass bytes names group) group.pivot old mid × AreMarked bytes names groups mid new

-- a year with the mark of its class
abbrev pub mode_by : Year → Mark → YearMode
mode_by y mark = record { year = y; pivot = mark.pivot; clash = mark.clash }

-- the first years have the marks of their classes
pub record AreOfMarks (years : List Year) (names : List ℕ) (marks : List Mark) (count : ℕ) (modes : List YearMode) : Type 0 where
  pub long : length modes ≡ count
  pub each : (i : ℕ) (y : Year) (m : Mark) (d : YearMode) → i < count →
      slice_index_or modes i d ≡ mode_by (slice_index_or years i y) (slice_index_or marks (slice_index names i) m)

-- the modes are those of the marks that the groups make
abbrev pub AreMarkedModes : List Year → List YearByte → List ℕ → List WindowGroup → List YearMode → Type 0
AreMarkedModes years bytes names groups modes = (old new : List Mark) × (length old ≡ length years) × ((c : ℕ) (d : Mark) → c < length years → slice_index_or old c d ≡ record { pivot = None; clash = false })
    × AreMarked bytes names groups old new × AreOfMarks years names new (length years) modes
