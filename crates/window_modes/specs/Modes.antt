-- The sets of window groups, and the modes that they give. A set of years is a test of their numbers in a list.
use Rattle.std.specs.Prelude.{◌≡◌, ◌⊎◌, ◌↔◌, ℕ, ◌<◌, ◌≤◌, Bool, IsTrue, List, [], ◌∷◌, length, slice_get, slice_index_or, Option, Some, None, Contains}
use Rattle.y2k_base.specs.declared.place.BytePlace.{BytePlace}
use Rattle.y2k_base.specs.declared.place.Span.{Span}
use Rattle.year_labels.specs.declared.rule.RuleForm.{RuleForm}
use Rattle.year_pairs.specs.declared.year.Year.{Year}
use Rattle.label_spread.specs.Steps.{IsInSpan}
use Rattle.window_modes.specs.declared.modes.WindowGroup.{WindowGroup}
use Rattle.window_modes.specs.declared.modes.YearMode.{YearMode}
use Rattle.window_modes.specs.Links.{HasByte, IsLinked}

-- what is said of the year of that number is true of it
abbrev pub OfYear : List Year → ℕ → (Year → Type 0) → Type 0
OfYear years i P = (y : Year) × (slice_get years i ≡ Some y) × P y

-- one of the rules links the years of these numbers
abbrev pub AreLinked : List Year → List RuleForm → ℕ → ℕ → Type 0
AreLinked years links i j = OfYear years i (λ y. OfYear years j (λ z. IsLinked links y z))

-- of two linked years the set has both or neither
abbrev pub IsClosed : List Year → List RuleForm → (ℕ → Bool) → Type 0
IsClosed years links set = (i j : ℕ) → AreLinked years links i j → set i ≡ set j

-- the year has a byte of an item of the group
abbrev pub IsOfItem : WindowGroup → Year → Type 0
IsOfItem group y = (span : Span) × Contains group.spans span × (place : BytePlace) × IsInSpan span place × HasByte y place

-- the set has the years of the group's items
abbrev pub Holds : List Year → WindowGroup → (ℕ → Bool) → Type 0
Holds years group set = (i : ℕ) → OfYear years i (IsOfItem group) → IsTrue (set i)

-- the year is in the group's set, the least one that is closed and has the years of its items
abbrev pub IsInSet : List Year → List RuleForm → WindowGroup → ℕ → Type 0
IsInSet years links group i = (set : ℕ → Bool) → IsClosed years links set → Holds years group set → IsTrue (set i)

-- the pivot of the first group that has it, of those for which `In` is said; none has it, or there is none
abbrev pub IsPivotOf : (WindowGroup → Type 0) → List WindowGroup → Option ℕ → Type 0
IsPivotOf In [] pivot = pivot ≡ None
IsPivotOf In (group ∷ groups) pivot = (In group × (pivot ≡ Some group.pivot)) ⊎ ((In group → ⊥) × IsPivotOf In groups pivot)

-- two groups have it whose pivots are unlike
abbrev pub HasClash : (WindowGroup → Type 0) → List WindowGroup → Type 0
HasClash In groups = (g h : WindowGroup) × Contains groups g × Contains groups h × In g × In h × (g.pivot ≡ h.pivot → ⊥)

-- the mode of the year of that number
pub record IsModeOf (years : List Year) (links : List RuleForm) (groups : List WindowGroup) (i : ℕ) (mode : YearMode) : Type 0 where
  pub year : slice_get years i ≡ Some mode.year
  pub pivot : IsPivotOf (λ group. IsInSet years links group i) groups mode.pivot
  pub clash : IsTrue mode.clash ↔ HasClash (λ group. IsInSet years links group i) groups

-- the modes of the years, in their order
pub record AreModesOf (years : List Year) (links : List RuleForm) (groups : List WindowGroup) (modes : List YearMode) : Type 0 where
  pub long : length modes ≡ length years
  pub each : (i : ℕ) (d : YearMode) → i < length years → IsModeOf years links groups i (slice_index_or modes i d)

-- the years are those of areas of at most 65,535 bytes
abbrev pub AreInAreas : List Year → Type 0
AreInAreas years = (i : ℕ) (y : Year) → slice_get years i ≡ Some y → y.place.offset ≤ 65535
