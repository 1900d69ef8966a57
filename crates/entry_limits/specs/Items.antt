-- The limits of an item: years that it parts, years of a form that it doesn't take, and those of its new PICTURE.
use Rattle.std.specs.Prelude.{ℕ, ◌+◌, ◌-◌, Bool, true, false, ◌&&◌, ◌==◌, List, [], ◌∷◌, ◌++◌, Option, Some, None, if◌then◌else◌}
use Rattle.y2k_base.specs.declared.place.BytePlace.{BytePlace}
use Rattle.y2k_base.specs.declared.place.Span.{Span}
use Rattle.y2k_base.specs.declared.word.Origin.{Origin}
use Rattle.y2k_base.specs.declared.word.Word.{Word}
use Rattle.cobol_syntax.specs.declared.program.Usage.{Usage}
use Rattle.cobol_syntax.specs.declared.program.Usage.TheVariants as usage
use Rattle.data_layout.specs.declared.item.Class.{Class}
use Rattle.data_layout.specs.declared.item.Class.TheVariants as class
use Rattle.data_layout.specs.declared.item.Item.{Item}
use Rattle.data_layout.specs.Faults.{origin_at}
use Rattle.picture.specs.Inserting.{symbol_at}
use Rattle.date_views.specs.Views.{runs_of}
use Rattle.year_labels.specs.Facts.{place_in}
use Rattle.year_pairs.specs.declared.year.Year.{Year}
use Rattle.year_pairs.specs.declared.year.YearKind.{YearKind}
use Rattle.year_pairs.specs.declared.year.YearKind.TheVariants as kinds
use Rattle.year_pairs.specs.Years.{place_after}
use Rattle.window_modes.specs.declared.modes.YearMode.{YearMode}
use Rattle.year_index.specs.Years.{year_across, years_in}
use Rattle.plan_limits.specs.declared.limit.Limit.{Limit}
use Rattle.plan_limits.specs.declared.limit.LimitKind.TheVariants as limits
use Rattle.plan_limits.specs.Limits.{place_limit}
use Rattle.entry_limits.specs.Pictures.{picture_limits}

-- Years that an item parts.

-- a year that goes across an edge
abbrev pub edge_limit : Origin → Option YearMode → List Limit
edge_limit at None = []
edge_limit at (Some mode) = place_limit limits.SplitYear at mode.year.place ∷ []

-- the first occurrence begins or ends inside a year
abbrev pub edge_limits : List YearMode → Origin → Span → List Limit
edge_limits modes at span =
    edge_limit at (year_across modes (place_in span 0)) ++ edge_limit at (year_across modes (place_in span span.length))

-- Years of a form that an item doesn't take.

abbrev pub mixed : Origin → BytePlace → List Limit
mixed at place = place_limit limits.ShapeMix at place ∷ []

-- of a year that the item doesn't take
abbrev pub mixed_unless : Bool → Origin → BytePlace → List Limit
mixed_unless taken at place = if taken then [] else mixed at place

abbrev pub is_pair : YearKind → Bool
is_pair kinds.Pair = true
is_pair (kinds.Packed digits unit) = false

abbrev pub is_packed_of : ℕ → YearKind → Bool
is_packed_of digits kinds.Pair = false
is_packed_of digits (kinds.Packed own unit) = own == digits

-- the year is one of the packed item's own digits: byte for byte that number
abbrev pub is_of_item : Item → Year → Bool
is_of_item item year = year.place.offset == item.span.offset && is_packed_of item.form.digits year.kind

-- the byte of an item's picture is a 9
abbrev pub is_nine : Item → BytePlace → Bool
is_nine item place = symbol_at (place.offset - item.span.offset) (runs_of item.picture) == 57

abbrev pub digit_limit : Origin → Item → BytePlace → List Limit
digit_limit at item place = mixed_unless (is_nine item place) at place

-- an edited item takes a year in two bytes that are 9 in its picture
abbrev pub edited_limits : Origin → Item → Year → List Limit
edited_limits at item year =
    if is_pair year.kind then digit_limit at item year.place ++ digit_limit at item (place_after year.place 1)
    else mixed at year.place

-- a number takes a year in two bytes where it is shown, and one of its own digits where it is packed; no year stands in a
-- binary one
abbrev pub number_limits : Usage → Origin → Item → Year → List Limit
number_limits usage.Display at item year = mixed_unless (is_pair year.kind) at year.place
number_limits usage.Packed at item year = mixed_unless (is_of_item item year) at year.place
number_limits usage.Binary at item year = []

-- a group or a text takes any year
abbrev pub form_limits : Class → Origin → Item → Year → List Limit
form_limits class.Group at item year = []
form_limits class.Text at item year = []
form_limits class.Edited at item year = edited_limits at item year
form_limits class.Number at item year = number_limits item.usage at item year

abbrev pub shape_limits : Origin → Item → List YearMode → List Limit
shape_limits at item [] = []
shape_limits at item (mode ∷ modes) = form_limits item.class at item mode.year ++ shape_limits at item modes

abbrev pub item_limits : List YearMode → Origin → Item → List Limit
item_limits modes at item =
    edge_limits modes at item.span ++ (shape_limits at item (years_in modes item.span) ++ picture_limits modes at item)

abbrev pub items_limits : List YearMode → List Word → List Item → List Limit
items_limits modes words [] = []
items_limits modes words (item ∷ items) = item_limits modes (origin_at words item.entry_at) item ++ items_limits modes words items
