-- Moves whose two sides may have unlike modes: such a move can be written anew so that it adds or drops the century.
use Rattle.std.specs.Prelude.{ℕ, zero, suc, ◌+◌, ◌-◌, Bool, true, false, not, ◌||◌, ◌&&◌, ◌==◌, nat_le, List, [], ◌∷◌, Option, Some, None, if◌then◌else◌}
use Rattle.std.specs.Ordering.{is_eq}
use Rattle.y2k_base.specs.declared.place.BytePlace.{BytePlace}
use Rattle.y2k_base.specs.declared.place.Span.{Span}
use Rattle.decimal_bytes.specs.declared.form.NumForm.{NumForm}
use Rattle.cobol_syntax.specs.declared.place.Sub.{Sub}
use Rattle.cobol_syntax.specs.declared.program.Usage.{Usage}
use Rattle.cobol_syntax.specs.declared.program.Usage.TheVariants as usage
use Rattle.operand_kinds.specs.declared.kind.Kind.{Kind}
use Rattle.operand_kinds.specs.declared.kind.Kind.TheVariants as kind
use Rattle.operand_kinds.specs.Kinds.{is_aligned}
use Rattle.year_labels.specs.declared.label.Fact.{Fact}
use Rattle.year_labels.specs.declared.label.Label.{Label}
use Rattle.year_labels.specs.declared.label.Label.TheVariants as labels
use Rattle.year_labels.specs.declared.rule.View.{View}
use Rattle.year_labels.specs.declared.rule.View.TheVariants as views
use Rattle.year_labels.specs.Facts.{fact_of, place_in}
use Rattle.year_labels.specs.Order.{fact_cmp}
use Rattle.year_pairs.specs.declared.year.Year.{Year}
use Rattle.year_pairs.specs.declared.year.YearKind.TheVariants as kinds
use Rattle.year_pairs.specs.Years.{width, label_at, place_after, IsYear}
use Rattle.date_views.specs.declared.side.Field.{Field}
use Rattle.date_views.specs.declared.side.Side.{Side}
use Rattle.date_views.specs.declared.side.Side.TheVariants as sides
use Rattle.statement_rules.specs.Names.{is_name}
use Rattle.mode_links.specs.declared.bridges.Bridge.{Bridge}

-- the byte bears the label
abbrev pub bears : List Fact → BytePlace → Label → Bool
bears [] place label = false
bears (f ∷ facts) place label = is_eq (fact_cmp f (fact_of place label)) || bears facts place label

-- each of the first bytes of the year bears its label
abbrev pub bears_first : List Fact → Year → ℕ → Bool
bears_first facts y zero = true
bears_first facts y (suc n) = bears_first facts y n && bears facts (place_after y.place n) (label_at y.kind n)

-- the year stands there
abbrev pub stands : List Fact → Year → Bool
stands facts y = bears_first facts y (width y.kind)

-- no year of two bytes begins in so many bytes behind the first of a span
abbrev pub begins_none : List Fact → Span → ℕ → Bool
begins_none facts span zero = true
begins_none facts span (suc n) = begins_none facts span n && not (bears facts (place_in span (n + 1)) labels.Tens)

abbrev pub is_power : ℕ → Option ℕ → Bool
is_power power None = false
is_power power (Some p) = p == power

abbrev pub starts_with : ℕ → List (Option ℕ) → Bool
starts_with power [] = false
starts_with power (p ∷ powers) = is_power power p

abbrev pub pair_in : Span → ℕ → Year
pair_in span i = record { place = place_in span i; kind = kinds.Pair }

-- two bytes of a span, from the one of that index on, whose digits have these two powers, the higher one first
abbrev pub pair_from : ℕ → ℕ → Span → ℕ → List (Option ℕ) → Option Year
pair_from high low span i [] = None
pair_from high low span i (p ∷ powers) =
    if is_power high p && starts_with low powers then Some (pair_in span i) else pair_from high low span (i + 1) powers

abbrev pub packed_at : Span → ℕ → ℕ → Year
packed_at span digits unit = record { place = place_in span 0; kind = kinds.Packed digits unit }

-- the year that would have the two highest of so many digits of a view
abbrev pub year_at : ℕ → View → Option Year
year_at digits (views.Bytes span powers) = pair_from (digits - 1) (digits - 2) span 0 powers
year_at digits (views.Packed span n) = Some (packed_at span n (digits - 2))
year_at digits views.Plain = None

abbrev pub standing : List Fact → Option Year → Option Year
standing facts None = None
standing facts (Some y) = if stands facts y then Some y else None

-- the year that has them, if there is one
abbrev pub year_of : List Fact → ℕ → View → Option Year
year_of facts digits view = if nat_le 2 digits then standing facts (year_at digits view) else None

-- an unsigned integer in DISPLAY usage, or a packed one with or without a sign
abbrev pub is_sending : Usage → NumForm → Bool
is_sending usage.Display form = form.scale == 0 && not form.signed
is_sending usage.Packed form = form.scale == 0
is_sending usage.Binary form = false

abbrev pub is_sender : Kind → Bool
is_sender kind.Group = false
is_sender kind.Text = false
is_sender (kind.Edited form) = false
is_sender (kind.Number usage form) = is_sending usage form

abbrev pub has_name : List Sub → Bool
has_name [] = false
has_name (s ∷ subs) = is_name s || has_name subs

abbrev pub bridge_to : Option Year → Option Year → Option Bridge
bridge_to (Some sent) (Some received) = Some (record { sent = sent; received = received })
bridge_to (Some sent) None = None
bridge_to None received = None

-- the first two digits of the sender are its only year, and the receiver has a year at the same powers
abbrev pub bridge_of_fields : List Fact → Field → Field → Option Bridge
bridge_of_fields facts a b =
    if begins_none facts a.span (a.span.length - 1) then bridge_to (year_of facts a.digits a.view) (year_of facts a.digits b.view) else None

-- the receiver is a number or an edited item in whose subscripts there is no data name
abbrev pub may_bridge : Field → Field → List Sub → Bool
may_bridge a b subs = is_sender a.kind && (is_aligned b.kind && not (has_name subs))

abbrev pub bridge_if : List Fact → Field → Field → List Sub → Option Bridge
bridge_if facts a b subs = if may_bridge a b subs then bridge_of_fields facts a b else None

abbrev pub bridge_from : List Fact → Field → Option Side → List Sub → Option Bridge
bridge_from facts a None subs = None
bridge_from facts a (Some (sides.Known b)) subs = bridge_if facts a b subs
bridge_from facts a (Some (sides.Moving most)) subs = None

-- the years of a move that is bridged, by its sender, its receiver and the subscripts of the receiver; None where it isn't.
-- A literal is no side, and neither side may be a reference that may stand anywhere
abbrev pub bridge : List Fact → Option Side → Option Side → List Sub → Option Bridge
bridge facts None to subs = None
bridge facts (Some (sides.Known a)) to subs = bridge_from facts a to subs
bridge facts (Some (sides.Moving most)) to subs = None

-- both years stand there
abbrev pub AreStanding : List Fact → Bridge → Type 0
AreStanding facts b = IsYear facts b.sent × IsYear facts b.received
