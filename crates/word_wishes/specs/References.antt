-- The new numbers of references of which the text tells the bytes. Of a table the first occurrence counts.
use Rattle.std.specs.Prelude.{ℕ, ◌-◌, List, [], ◌∷◌, ◌++◌, slice_get, Option, Some, None, if◌then◌else◌}
use Rattle.y2k_base.specs.declared.edit.Edit.{Edit}
use Rattle.y2k_base.specs.declared.place.Span.{Span}
use Rattle.y2k_base.specs.declared.word.Word.{Word}
use Rattle.data_layout.specs.declared.item.Item.{Item}
use Rattle.date_views.specs.declared.side.Side.{Side}
use Rattle.date_views.specs.declared.side.Side.TheVariants as sides
use Rattle.window_modes.specs.declared.modes.YearMode.{YearMode}
use Rattle.date_uses.specs.declared.uses.Used.{Used}
use Rattle.date_uses.specs.declared.uses.Used.TheVariants as used
use Rattle.date_uses.specs.declared.uses.UsedPlace.{UsedPlace}
use Rattle.word_wishes.specs.declared.positions.Sought.TheVariants as sought
use Rattle.word_wishes.specs.declared.references.Reference.{Reference}
use Rattle.word_wishes.specs.Grown.{new_number}
use Rattle.word_wishes.specs.Positions.{position_from, start_before, length_behind}
use Rattle.word_wishes.specs.Wishes.{wanted_number}

abbrev pub known_span : Option Side → Option Span
known_span None = None
known_span (Some (sides.Known field)) = Some field.span
known_span (Some (sides.Moving most)) = None

abbrev pub reference_with : Option ℕ → Option Span → ℕ → Option Reference
reference_with None span at = None
reference_with (Some item) None at = None
reference_with (Some item) (Some span) at = Some (record { item = item; span = span; at = at })

abbrev pub reference_in : UsedPlace → Option Reference
reference_in place = if place.cut then reference_with place.item (known_span place.side) place.at else None

abbrev pub reference_of : Used → Option Reference
reference_of (used.Place place) = reference_in place
reference_of (used.Number value digits at) = None
reference_of (used.Text bytes at) = None
reference_of (used.Figure byte at) = None

-- the bytes of an item before a part of it
abbrev pub span_before : Span → Span → Span
span_before item part = record { area = item.area; offset = item.offset; length = part.offset - item.offset }

-- starts count from 1
abbrev pub start_wishes : List YearMode → ℕ → List Word → Span → Option ℕ → List Edit
start_wishes modes program words before None = []
start_wishes modes program words before (Some position) = wanted_number program words position (new_number modes before 1)

abbrev pub length_wishes : List YearMode → ℕ → List Word → Span → Option ℕ → List Edit
length_wishes modes program words part None = []
length_wishes modes program words part (Some position) = wanted_number program words position (new_number modes part 0)

-- by the position of its colon
abbrev pub bounds_wishes : List YearMode → ℕ → List Word → Span → Span → Option ℕ → List Edit
bounds_wishes modes program words item part None = []
bounds_wishes modes program words item part (Some colon) =
    start_wishes modes program words (span_before item part) (start_before colon)
    ++ length_wishes modes program words part (length_behind words colon)

-- the item of a reference, if there is one
abbrev pub reference_over : List YearMode → ℕ → List Word → Reference → Option Item → List Edit
reference_over modes program words reference None = []
reference_over modes program words reference (Some item) =
    bounds_wishes modes program words item.span reference.span (position_from sought.Colon words reference.at)

abbrev pub reference_if : List YearMode → ℕ → List Word → List Item → Option Reference → List Edit
reference_if modes program words items None = []
reference_if modes program words items (Some reference) =
    reference_over modes program words reference (slice_get items reference.item)

abbrev pub reference_wishes : List YearMode → ℕ → List Word → List Item → Used → List Edit
reference_wishes modes program words items operand = reference_if modes program words items (reference_of operand)
