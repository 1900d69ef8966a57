-- Tests of what known labels say of the digits of a number.
use Rattle.std.specs.Prelude.{ℕ, zero, suc, ◌+◌, ◌-◌, Bool, true, false, ◌||◌, ◌&&◌, nat_lt, List, [], ◌∷◌, Option}
use Rattle.y2k_base.specs.declared.place.Span.{Span}
use Rattle.year_labels.specs.declared.label.Fact.{Fact}
use Rattle.year_labels.specs.declared.label.Label.{Label}
use Rattle.year_labels.specs.declared.label.Label.TheVariants as labels
use Rattle.year_labels.specs.declared.label.Role.{Role}
use Rattle.year_labels.specs.declared.label.Role.TheVariants as roles
use Rattle.year_labels.specs.declared.rule.View.{View}
use Rattle.year_labels.specs.declared.rule.View.TheVariants as views
use Rattle.year_labels.specs.Facts.{place_in}
use Rattle.year_labels.specs.Roles.{label_of}
use Rattle.mode_links.specs.Bridges.{bears, is_power}

-- byte i and those behind it hold digits of these powers: the byte of that power bears the label
abbrev pub digit_bears : List Fact → Span → Label → ℕ → ℕ → List (Option ℕ) → Bool
digit_bears facts span label power i [] = false
digit_bears facts span label power i (p ∷ powers) =
    (is_power power p && bears facts (place_in span i) label) || digit_bears facts span label power (i + 1) powers

-- one of the first bytes of a packed number bears the label that it has in a year with its units digit at that power
abbrev pub year_bears : List Fact → Span → ℕ → ℕ → ℕ → Bool
year_bears facts span digits unit zero = false
year_bears facts span digits unit (suc k) =
    year_bears facts span digits unit k || bears facts (place_in span k) (labels.Packed digits unit k)

-- one of the first bytes of a packed number is plain
abbrev pub plain_bears : List Fact → Span → ℕ → Bool
plain_bears facts span zero = false
plain_bears facts span (suc k) = plain_bears facts span k || bears facts (place_in span k) labels.Plain

abbrev pub has_packed_role : List Fact → Span → ℕ → ℕ → Role → Bool
has_packed_role facts span digits power roles.Tens = nat_lt 0 power && year_bears facts span digits (power - 1) span.length
has_packed_role facts span digits power roles.Units = year_bears facts span digits power span.length
has_packed_role facts span digits power roles.Plain = nat_lt power digits && plain_bears facts span span.length

abbrev pub is_plain_role : Role → Bool
is_plain_role roles.Tens = false
is_plain_role roles.Units = false
is_plain_role roles.Plain = true

-- the digit of that power has the role
abbrev pub has_role : List Fact → View → ℕ → Role → Bool
has_role facts (views.Bytes span powers) power role = digit_bears facts span (label_of role) power 0 powers
has_role facts (views.Packed span digits) power role = has_packed_role facts span digits power role
has_role facts views.Plain power role = is_plain_role role

-- a number of two digits is a year
abbrev pub is_year : List Fact → View → Bool
is_year facts view = has_role facts view 1 roles.Tens || has_role facts view 0 roles.Units

-- a number of two digits is plain
abbrev pub is_plain : List Fact → View → Bool
is_plain facts view = has_role facts view 1 roles.Plain || has_role facts view 0 roles.Plain
