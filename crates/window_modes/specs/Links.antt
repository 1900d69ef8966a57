-- Which years are linked by a rule.
use Rattle.std.specs.Prelude.{◌≡◌, ◌⊎◌, ℕ, ◌+◌, ◌<◌, List, Contains}
use Rattle.y2k_base.specs.declared.place.BytePlace.{BytePlace}
use Rattle.y2k_base.specs.declared.place.Span.{Span}
use Rattle.year_labels.specs.declared.rule.RuleForm.{RuleForm}
use Rattle.year_labels.specs.declared.rule.RuleForm.TheVariants as forms
use Rattle.year_labels.specs.declared.rule.View.{View}
use Rattle.year_labels.specs.declared.rule.View.TheVariants as views
use Rattle.year_labels.specs.Facts.{place_in}
use Rattle.year_labels.specs.Roles.{HoldsPower}
use Rattle.year_pairs.specs.declared.year.Year.{Year}
use Rattle.year_pairs.specs.declared.year.YearKind.TheVariants as kinds
use Rattle.year_pairs.specs.Years.{width, place_after}

-- the place is a byte of the year
abbrev pub HasByte : Year → BytePlace → Type 0
HasByte y place = (k : ℕ) × (k < width y.kind) × (place ≡ place_after y.place k)

abbrev pub start : Span → BytePlace
start span = record { area = span.area; offset = span.offset }

-- a digit of the year stands at that power of the view: a byte of a pair where each byte is a digit, or the year of a packed
-- number
abbrev pub Shows : View → ℕ → Year → Type 0
Shows (views.Bytes span powers) power y = (y.kind ≡ kinds.Pair) × (i : ℕ) × HoldsPower powers i power × HasByte y (place_in span i)
Shows (views.Packed span digits) power y =
    (y.place ≡ start span) × (unit : ℕ) × (y.kind ≡ kinds.Packed digits unit) × ((power ≡ unit) ⊎ (power ≡ unit + 1))
Shows views.Plain power y = ⊥

-- the two years have a digit at the same power of the two views
abbrev pub AreAligned : View → View → Year → Year → Type 0
AreAligned a b y z = (power : ℕ) × Shows a power y × Shows b power z

-- the two years have the same byte of the two spans
abbrev pub AreTwins : Span → Span → Year → Year → Type 0
AreTwins a b y z = (k : ℕ) × (k < a.length) × HasByte y (place_in a k) × HasByte z (place_in b k)

-- the years of any two operands of a sum or a difference
abbrev pub AreOperands : View → View → View → Year → Year → Type 0
AreOperands a b c y z = AreAligned a b y z ⊎ (AreAligned a c y z ⊎ AreAligned b c y z)

-- the rule links the two years
abbrev pub IsLink : RuleForm → Year → Year → Type 0
IsLink (forms.Give fact) y z = ⊥
IsLink (forms.GiveDigit view power role) y z = ⊥
IsLink (forms.Alike a b) y z = AreTwins a b y z
IsLink (forms.Digits a b) y z = AreAligned a b y z
IsLink (forms.Fill view from) y z = ⊥
IsLink (forms.Sum a b c) y z = AreOperands a b c y z
IsLink (forms.Difference a b c) y z = AreOperands a b c y z

-- one of the rules links them
abbrev pub IsLinked : List RuleForm → Year → Year → Type 0
IsLinked links y z = (form : RuleForm) × Contains links form × IsLink form y z
