-- The rows of a plan.
use Rattle.std.specs.Prelude.{◌≡◌, ℕ, Bool, true, ◌&&◌, List, [], ◌∷◌, drop, codes, slice_get, Option, Some, None, is_some, if◌then◌else◌}
use Rattle.std.specs.List.{flat_map}
use Rattle.std.specs.List.Sorted.{IsPermutation, IsSorted}
use Rattle.y2k_base.specs.declared.picture.Picture.{Picture}
use Rattle.y2k_base.specs.declared.text.Text.{Text}
use Rattle.y2k_base.specs.declared.text.Texts.{Texts}
use Rattle.cobol_syntax.specs.declared.program.Program.{Program}
use Rattle.data_layout.specs.declared.item.Item.{Item}
use Rattle.data_layout.specs.declared.item.Layout.{Layout}
use Rattle.data_layout.specs.declared.portfolio.Portfolio.{Portfolio}
use Rattle.window_modes.specs.declared.modes.YearMode.{YearMode}
use Rattle.year_index.specs.Years.{years_in}
use Rattle.picture.specs.Printing.{printed}
use Rattle.picture_images.specs.Images.{picture_image}
use Rattle.reports.specs.declared.items.ItemStart.{ItemStart}
use Rattle.reports.specs.Items.{first_picture, item_header, item_row, start_cmp, starts_in}
use Rattle.reports.specs.Rows.{ReadsAs, rows_text}

-- each of the years stays in its window
abbrev pub are_windowed : List YearMode → Bool
are_windowed [] = true
are_windowed (mode ∷ modes) = is_some mode.pivot && are_windowed modes

abbrev pub picture_text : Option Picture → List ℕ
picture_text None = []
picture_text (Some picture) = printed picture.runs

-- an item whose years all stay in windows keeps its PICTURE word
abbrev pub windowed_row : List Text → Program → Item → List (List ℕ)
windowed_row texts program item = item_row texts program item (codes "windowed") (first_picture (drop item.entry_at program.words))

-- any other gets the image of its PICTURE
abbrev pub expanded_row : List Text → Program → List YearMode → Item → List (List ℕ)
expanded_row texts program modes item = item_row texts program item (codes "expanded") (picture_text (picture_image modes item))

abbrev pub row_by : List Text → Program → List YearMode → Item → Bool → List (List ℕ)
row_by texts program modes item windowed = if windowed then windowed_row texts program item else expanded_row texts program modes item

abbrev pub row_of : List Text → Program → List YearMode → Item → List (List ℕ)
row_of texts program modes item = row_by texts program modes item (are_windowed (years_in modes item.span))

abbrev pub row_if : List YearMode → List (List ℕ) → List (List (List ℕ))
row_if [] row = []
row_if (mode ∷ modes) row = row ∷ []

-- the row of an item that has a year
abbrev pub rows_of : List Text → Program → List YearMode → Item → List (List (List ℕ))
rows_of texts program modes item = row_if (years_in modes item.span) (row_of texts program modes item)

abbrev pub item_in : Option Layout → ℕ → Option Item
item_in None number = None
item_in (Some layout) number = slice_get layout.items number

abbrev pub item_at : List Layout → ItemStart → Option Item
item_at layouts start = item_in (slice_get layouts start.program) start.item

abbrev pub rows_if : List Text → Option Program → List YearMode → Option Item → List (List (List ℕ))
rows_if texts None modes item = []
rows_if texts (Some program) modes None = []
rows_if texts (Some program) modes (Some item) = rows_of texts program modes item

abbrev pub rows_at : List Text → Portfolio → List YearMode → ItemStart → List (List (List ℕ))
rows_at texts portfolio modes start = rows_if texts (slice_get portfolio.programs start.program) modes (item_at portfolio.layouts start)

-- the header, and the rows of items in this order
abbrev pub plan_table : List Text → Portfolio → List YearMode → List ItemStart → List (List (List ℕ))
plan_table texts portfolio modes starts = item_header ∷ flat_map (rows_at texts portfolio modes) starts

-- the text is that of the elementary items with a year in order of their first bytes and of their entries, and a reader of CSV
-- finds its rows there
pub record IsPlanReport (texts : Texts) (portfolio : Portfolio) (modes : List YearMode) (text : List ℕ) : Type 0 where
  pub starts : List ItemStart
  pub same : IsPermutation (starts_in 0 portfolio.layouts) starts
  pub sorted : IsSorted start_cmp starts
  pub text_is : text ≡ rows_text (plan_table texts.list portfolio modes starts)
  pub again : ReadsAs text (plan_table texts.list portfolio modes starts)
