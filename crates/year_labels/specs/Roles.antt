-- Digits and their roles.
use Rattle.std.specs.Prelude.{◌≡◌, ◌⊎◌, ℕ, ◌+◌, ◌-◌, ◌*◌, ◌/◌, ◌<◌, List, slice_get, Option, Some, Contains}
use Rattle.y2k_base.specs.declared.place.Span.{Span}
use Rattle.year_labels.specs.declared.label.Fact.{Fact}
use Rattle.year_labels.specs.declared.label.Label.{Label}
use Rattle.year_labels.specs.declared.label.Label.TheVariants as labels
use Rattle.year_labels.specs.declared.label.Role.{Role}
use Rattle.year_labels.specs.declared.label.Role.TheVariants as roles
use Rattle.year_labels.specs.declared.rule.View.{View}
use Rattle.year_labels.specs.declared.rule.View.TheVariants as views
use Rattle.year_labels.specs.Facts.{fact_in}

-- the label of a byte that holds just a digit of that role
abbrev pub label_of : Role → Label
label_of roles.Tens = labels.Tens
label_of roles.Units = labels.Units
label_of roles.Plain = labels.Plain

-- byte i holds the digit of that power
abbrev pub HoldsPower : List (Option ℕ) → ℕ → ℕ → Type 0
HoldsPower powers i power = slice_get powers i ≡ Some (Some power)

-- the byte of a packed number of so many digits that holds the digit of that power: the digit of power 0 stands in
-- the last byte, before the sign, and two digits stand in each byte before it
abbrev pub packed_byte : ℕ → ℕ → ℕ
packed_byte digits power = (digits / 2 * 2 - power) / 2

-- the known facts say that the digit of that power of a packed number has the role. A year stands there as a label of
-- one of the bytes that is meant for this byte of a number of as many digits
abbrev pub HasPackedRole : List Fact → Span → ℕ → ℕ → Role → Type 0
HasPackedRole known span digits power roles.Tens = (k : ℕ) × (unit : ℕ) × (k < span.length) × (power ≡ unit + 1) × Contains known (fact_in span k (labels.Packed digits unit k))
HasPackedRole known span digits power roles.Units = (k : ℕ) × (k < span.length) × Contains known (fact_in span k (labels.Packed digits power k))
HasPackedRole known span digits power roles.Plain = (k : ℕ) × (k < span.length) × (power < digits) × Contains known (fact_in span k labels.Plain)

-- the known facts say that the digit of that power has the role
abbrev pub HasRole : List Fact → View → ℕ → Role → Type 0
HasRole known (views.Bytes span powers) power role = (i : ℕ) × HoldsPower powers i power × Contains known (fact_in span i (label_of role))
HasRole known (views.Packed span digits) power role = HasPackedRole known span digits power role
HasRole known views.Plain power role = role ≡ roles.Plain

-- that each byte of a packed number bears the label of a year with its units digit at that power
abbrev pub IsPackedYear : Span → ℕ → ℕ → Fact → Type 0
IsPackedYear span digits unit f = (k : ℕ) × (k < span.length) × (f ≡ fact_in span k (labels.Packed digits unit k))

-- that each byte of a span is plain
abbrev pub IsPlainByte : Span → Fact → Type 0
IsPlainByte span f = (k : ℕ) × (k < span.length) × (f ≡ fact_in span k labels.Plain)

-- that the byte of a digit of a packed number bears the label, since only one digit of the year is a digit of the number
abbrev pub IsHalfYear : Span → ℕ → ℕ → Label → Fact → Type 0
IsHalfYear span digits power label f = f ≡ fact_in span (packed_byte digits power) label

-- a digit of a year stands at that power of a packed number
abbrev pub HasPackedYear : List Fact → Span → ℕ → ℕ → Type 0
HasPackedYear known span digits power = HasPackedRole known span digits power roles.Tens ⊎ HasPackedRole known span digits power roles.Units

-- making the digit of that power of a packed number plain makes all of it plain: the number has two digits, or a digit of
-- a year stands there. Else nothing is made plain
abbrev pub MayBePlain : List Fact → Span → ℕ → ℕ → Type 0
MayBePlain known span digits power = (power < digits) × ((digits ≡ 2) ⊎ HasPackedYear known span digits power)

-- giving the role to the digit of that power of a packed number adds the fact. A year is given whole where both its digits
-- are digits of the number
abbrev pub GivesPacked : List Fact → Span → ℕ → ℕ → Role → Fact → Type 0
GivesPacked known span digits power roles.Tens f = (power < digits)
    × (((unit : ℕ) × (power ≡ unit + 1) × IsPackedYear span digits unit f) ⊎ ((power ≡ 0) × IsHalfYear span digits power labels.Tens f))
GivesPacked known span digits power roles.Units f =
    ((power + 1 < digits) × IsPackedYear span digits power f) ⊎ ((power + 1 ≡ digits) × IsHalfYear span digits power labels.Units f)
GivesPacked known span digits power roles.Plain f = MayBePlain known span digits power × IsPlainByte span f

-- giving the role to the digit of that power adds the fact
abbrev pub Gives : List Fact → View → ℕ → Role → Fact → Type 0
Gives known (views.Bytes span powers) power role f = (i : ℕ) × HoldsPower powers i power × (f ≡ fact_in span i (label_of role))
Gives known (views.Packed span digits) power role f = GivesPacked known span digits power role f
Gives known views.Plain power role f = ⊥
