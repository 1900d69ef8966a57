-- Whether an ACCEPT gives an expanded year.
use Rattle.std.specs.Prelude.{ℕ, ◌+◌, Bool, true, false, not, ◌&&◌, ◌==◌, List, [], ◌∷◌, Option, Some, None, is_some, if◌then◌else◌}
use Rattle.y2k_base.specs.declared.place.BytePlace.{BytePlace}
use Rattle.y2k_base.specs.declared.place.Span.{Span}
use Rattle.cobol_syntax.specs.declared.statement.Register.{Register}
use Rattle.cobol_syntax.specs.declared.statement.Register.TheVariants as register
use Rattle.operand_kinds.specs.Kinds.{is_aligned}
use Rattle.year_labels.specs.declared.rule.View.{View}
use Rattle.year_labels.specs.declared.rule.View.TheVariants as views
use Rattle.year_labels.specs.Facts.{place_in}
use Rattle.year_pairs.specs.declared.year.YearKind.{YearKind}
use Rattle.year_pairs.specs.declared.year.YearKind.TheVariants as kinds
use Rattle.window_modes.specs.declared.modes.YearMode.{YearMode}
use Rattle.date_views.specs.declared.side.Field.{Field}
use Rattle.date_views.specs.declared.side.Side.{Side}
use Rattle.date_views.specs.declared.side.Side.TheVariants as sides
use Rattle.mode_links.specs.Bridges.{is_power}
use Rattle.year_index.specs.Years.{year_at}
use Rattle.date_uses.specs.declared.uses.Used.{Used}
use Rattle.date_uses.specs.declared.uses.Used.TheVariants as used
use Rattle.date_uses.specs.declared.uses.UseForm.{UseForm}
use Rattle.date_uses.specs.declared.uses.UseForm.TheVariants as uses

-- the power of the units digit of the year in YYMMDD and in YYDDD; a time has no year
abbrev pub year_power : Register → Option ℕ
year_power register.Date = Some 4
year_power register.Day = Some 3
year_power register.Time = None

-- the byte of a span that has the digit of that power
abbrev pub digit_from : ℕ → Span → ℕ → List (Option ℕ) → Option BytePlace
digit_from power span i [] = None
digit_from power span i (p ∷ powers) = if is_power power p then Some (place_in span i) else digit_from power span (i + 1) powers

-- the byte with which a year begins that has its units digit at that power
abbrev pub first_in_view : ℕ → View → Option BytePlace
first_in_view unit (views.Bytes span powers) = digit_from (unit + 1) span 0 powers
first_in_view unit (views.Packed span digits) = Some (place_in span 0)
first_in_view unit views.Plain = None

-- a number and an edited item take digits by their powers, a group and a text from the left
abbrev pub first_byte : ℕ → Field → Option BytePlace
first_byte unit field = if is_aligned field.kind then first_in_view unit field.view else Some (place_in field.span 0)

-- two bytes, or a packed number with the units digit of its year at that power
abbrev pub has_unit : ℕ → YearKind → Bool
has_unit unit kinds.Pair = true
has_unit unit (kinds.Packed digits power) = power == unit

-- it gets its century, and begins with the byte
abbrev pub is_expanded : ℕ → BytePlace → Option YearMode → Bool
is_expanded unit place None = false
is_expanded unit place (Some mode) = not (is_some mode.pivot) && (mode.year.place.offset == place.offset && has_unit unit mode.year.kind)

abbrev pub expanded_at : List YearMode → ℕ → Option BytePlace → Bool
expanded_at modes unit None = false
expanded_at modes unit (Some place) = is_expanded unit place (year_at modes place)

-- a reference that may stand anywhere has no year
abbrev pub gives_side : List YearMode → ℕ → Option Side → Bool
gives_side modes unit None = false
gives_side modes unit (Some (sides.Known field)) = expanded_at modes unit (first_byte unit field)
gives_side modes unit (Some (sides.Moving most)) = false

abbrev pub gives_used : List YearMode → ℕ → Used → Bool
gives_used modes unit (used.Place place) = gives_side modes unit place.side
gives_used modes unit (used.Number value digits at) = false
gives_used modes unit (used.Text bytes at) = false
gives_used modes unit (used.Figure byte at) = false

-- it accepts a year that gets its century, with its units digit at that power
abbrev pub accepts_year : List YearMode → ℕ → UseForm → Bool
accepts_year modes unit (uses.Move kind from to bridge) = false
accepts_year modes unit (uses.Accept to from) = is_power unit (year_power from) && gives_used modes unit to
accepts_year modes unit (uses.Compare left rel right) = false
accepts_year modes unit (uses.Class of numeric) = false
accepts_year modes unit (uses.Sum to left right size) = false
accepts_year modes unit (uses.Difference to left right size) = false
accepts_year modes unit (uses.Value item of) = false
accepts_year modes unit (uses.Range item low high) = false
accepts_year modes unit (uses.Mention of) = false
