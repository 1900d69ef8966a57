-- The PICTURE that an item has after conversion. Two digits are put before each expanded pair of bytes, a text gets a place
-- for each expanded packed number, and a packed number with an expanded year gets two digits.
use Rattle.std.specs.Prelude.{ℕ, ◌+◌, Bool, true, false, ◌&&◌, ◌==◌, nat_le, List, [], ◌∷◌, map, sum_by, Option, Some, None, option_map, if◌then◌else◌}
use Rattle.std.specs.List.{list_any}
use Rattle.y2k_base.specs.declared.picture.PicClass.{PicClass}
use Rattle.y2k_base.specs.declared.picture.PicClass.TheVariants as class
use Rattle.y2k_base.specs.declared.picture.Picture.{Picture}
use Rattle.y2k_base.specs.declared.picture.Run.{Run}
use Rattle.y2k_base.specs.declared.place.BytePlace.{BytePlace}
use Rattle.y2k_base.specs.declared.place.Span.{Span}
use Rattle.picture.specs.Inserting.{takes_byte}
use Rattle.cobol_syntax.specs.declared.program.Usage.{Usage}
use Rattle.cobol_syntax.specs.declared.program.Usage.TheVariants as usage
use Rattle.data_layout.specs.declared.item.Item.{Item}
use Rattle.year_pairs.specs.declared.year.YearKind.{YearKind}
use Rattle.year_pairs.specs.declared.year.YearKind.TheVariants as kinds
use Rattle.window_modes.specs.declared.modes.YearMode.{YearMode}
use Rattle.year_index.specs.Years.{years_in}

-- a year without a pivot is expanded
abbrev pub is_expanded : Option ℕ → Bool
is_expanded None = true
is_expanded (Some pivot) = false

abbrev pub is_packed : YearKind → Bool
is_packed kinds.Pair = false
is_packed (kinds.Packed digits unit) = true

-- A DISPLAY item has a byte for each of its places, but for S and V.

abbrev pub places_for_packed : PicClass → ℕ
places_for_packed class.Text = 1
places_for_packed class.Number = 0
places_for_packed class.Edited = 0

-- how many places an expanded year gives a picture of that class
abbrev pub places_for : PicClass → YearKind → ℕ
places_for class kinds.Pair = 2
places_for class (kinds.Packed digits unit) = places_for_packed class

-- how many a year gives that begins at that offset or behind it
abbrev pub places_from : PicClass → ℕ → YearMode → ℕ
places_from class offset mode =
    if is_expanded mode.pivot && nat_le offset mode.year.place.offset then places_for class mode.year.kind else 0

-- how many the years give that begin in a span
abbrev pub places_in : PicClass → List YearMode → Span → ℕ
places_in class modes span = sum_by (places_from class span.offset) (years_in modes span)

abbrev pub lengthened : Run → ℕ → Run
lengthened run more = record { symbol = run.symbol; count = run.count + more }

-- how many bytes a run stands for
abbrev pub bytes_of : Run → ℕ
bytes_of run = if takes_byte run.symbol then run.count else 0

-- the bytes of a run, from that place on
abbrev pub span_of : BytePlace → Run → Span
span_of start run = record { area = start.area; offset = start.offset; length = bytes_of run }

abbrev pub behind : BytePlace → Run → BytePlace
behind start run = record { area = start.area; offset = start.offset + bytes_of run }

-- the run gets the places for the years that begin in its bytes
abbrev pub run_image : PicClass → List YearMode → BytePlace → Run → Run
run_image class modes start run =
    if takes_byte run.symbol then lengthened run (places_in class modes (span_of start run)) else run

-- the runs of an item that begins at that place
abbrev pub display_image : PicClass → List YearMode → BytePlace → List Run → List Run
display_image class modes start [] = []
display_image class modes start (run ∷ runs) = run_image class modes start run ∷ display_image class modes (behind start run) runs

-- A packed number with a year has no decimals, and so its 9 in one run.

abbrev pub is_expanded_number : YearMode → Bool
is_expanded_number mode = is_expanded mode.pivot && is_packed mode.year.kind

abbrev pub digits_in : List YearMode → Span → ℕ
digits_in modes span = if list_any is_expanded_number (years_in modes span) then 2 else 0

abbrev pub packed_run : ℕ → Run → Run
packed_run more run = if run.symbol == 57 then lengthened run more else run

abbrev pub packed_image : List YearMode → Span → List Run → List Run
packed_image modes span runs = map (packed_run (digits_in modes span)) runs

abbrev pub start_of : Span → BytePlace
start_of span = record { area = span.area; offset = span.offset }

-- a binary number has no year
abbrev pub runs_image : Usage → PicClass → List YearMode → Span → List Run → List Run
runs_image usage.Display class modes span runs = display_image class modes (start_of span) runs
runs_image usage.Packed class modes span runs = packed_image modes span runs
runs_image usage.Binary class modes span runs = runs

abbrev pub image_of : List YearMode → Item → Picture → Picture
image_of modes item picture = record {
  class = picture.class;
  runs = runs_image item.usage picture.class modes item.span picture.runs;
}

-- the PICTURE of an item, if it has one
abbrev pub picture_image : List YearMode → Item → Option Picture
picture_image modes item = option_map (image_of modes item) item.picture
