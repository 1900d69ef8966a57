-- What seeds say of an item.
use Rattle.std.specs.Prelude.{ℕ, zero, suc, ◌+◌, ◌-◌, Bool, true, false, ◌&&◌, nat_le, List, [], ◌∷◌, ◌++◌, replicate, slice_get, Option, Some, None, if◌then◌else◌}
use Rattle.y2k_base.specs.declared.place.Span.{Span}
use Rattle.decimal_bytes.specs.declared.form.NumForm.{NumForm}
use Rattle.decimal_bytes.specs.declared.form.SignPlace.{SignPlace}
use Rattle.decimal_bytes.specs.declared.form.SignPlace.TheVariants as sign
use Rattle.cobol_syntax.specs.declared.program.Usage.{Usage}
use Rattle.cobol_syntax.specs.declared.program.Usage.TheVariants as usage
use Rattle.data_layout.specs.declared.item.Class.{Class}
use Rattle.data_layout.specs.declared.item.Class.TheVariants as class
use Rattle.data_layout.specs.declared.item.Item.{Item}
use Rattle.year_labels.specs.declared.label.Label.{Label}
use Rattle.year_labels.specs.declared.label.Label.TheVariants as labels
use Rattle.year_labels.specs.declared.label.Seed.{Seed}
use Rattle.year_labels.specs.Facts.{fact_in}
use Rattle.date_views.specs.Views.{digit_places, runs_of}

-- a row says that byte i of a span bears the label
abbrev pub seed : ℕ → Span → ℕ → Label → Seed
seed row span i label = record { fact = fact_in span i label; row = row }

-- a sign of its own before the digits takes the first byte
abbrev pub is_leading_separate : SignPlace → Bool
is_leading_separate sign.Trailing = false
is_leading_separate sign.Leading = false
is_leading_separate sign.TrailingSeparate = false
is_leading_separate sign.LeadingSeparate = true

abbrev pub sign_places : NumForm → List Bool
sign_places form = if form.signed && is_leading_separate form.sign then false ∷ [] else []

-- for each byte of an item in DISPLAY usage, whether it counts as a digit: each of a group or a text, and the digits of a
-- number or an edited item
abbrev pub places_of : Class → Item → List Bool
places_of class.Group item = replicate item.span.length true
places_of class.Text item = replicate item.span.length true
places_of class.Edited item = digit_places (runs_of item.picture)
places_of class.Number item = sign_places item.form ++ digit_places (runs_of item.picture)

abbrev pub offset_if : ℕ → Bool → List ℕ
offset_if at true = at ∷ []
offset_if at false = []

-- the offsets of the digits, where the first place has this one
abbrev pub offsets_from : ℕ → List Bool → List ℕ
offsets_from at [] = []
offsets_from at (digit ∷ places) = offset_if at digit ++ offsets_from (at + 1) places

abbrev pub with_units : ℕ → Span → ℕ → Option ℕ → Option (List Seed)
with_units row span tens None = None
with_units row span tens (Some units) = Some (seed row span tens labels.Tens ∷ seed row span units labels.Units ∷ [])

-- a year whose tens and units stand in these two bytes, if there are both
abbrev pub pair : ℕ → Span → Option ℕ → Option ℕ → Option (List Seed)
pair row span None units = None
pair row span (Some tens) units = with_units row span tens units

-- a year at the digit of that number from the left, from 1 on, and the next
abbrev pub byte_year : ℕ → Span → List ℕ → ℕ → Option (List Seed)
byte_year row span offsets digit = pair row span (slice_get offsets (digit - 1)) (slice_get offsets digit)

-- the first n bytes of a packed number of so many digits, with a year whose units digit stands at that power
abbrev pub packed_bytes : ℕ → Span → ℕ → ℕ → ℕ → List Seed
packed_bytes row span digits unit zero = []
packed_bytes row span digits unit (suc n) =
    packed_bytes row span digits unit n ++ seed row span n (labels.Packed digits unit n) ∷ []

-- the power of the units digit of a year, if both its digits are integer digits
abbrev pub packed_unit : NumForm → ℕ → Option ℕ
packed_unit form digit =
    if nat_le (digit + (1 + form.scale)) form.digits then Some (form.digits - (digit + (1 + form.scale))) else None

abbrev pub packed_at : ℕ → Span → ℕ → Option ℕ → Option (List Seed)
packed_at row span digits None = None
packed_at row span digits (Some unit) = Some (packed_bytes row span digits unit span.length)

abbrev pub packed_year : ℕ → Span → NumForm → ℕ → Option (List Seed)
packed_year row span form digit = packed_at row span form.digits (packed_unit form digit)

abbrev pub year_by : ℕ → Usage → Item → ℕ → Option (List Seed)
year_by row usage.Display item digit = byte_year row item.span (offsets_from 0 (places_of item.class item)) digit
year_by row usage.Packed item digit = packed_year row item.span item.form digit
year_by row usage.Binary item digit = None

-- a year whose tens digit is that one, counted from the left
abbrev pub year_seeds : Item → ℕ → ℕ → Option (List Seed)
year_seeds item digit row = year_by row item.usage item digit

-- the first n bytes are plain
abbrev pub plain_bytes : ℕ → Span → ℕ → List Seed
plain_bytes row span zero = []
plain_bytes row span (suc n) = plain_bytes row span n ++ seed row span n labels.Plain ∷ []

abbrev pub plain_by : ℕ → Usage → Span → Option (List Seed)
plain_by row usage.Display span = Some (plain_bytes row span span.length)
plain_by row usage.Packed span = Some (plain_bytes row span span.length)
plain_by row usage.Binary span = None

-- no year stands in the item
abbrev pub plain_seeds : Item → ℕ → Option (List Seed)
plain_seeds item row = plain_by row item.usage item.span
