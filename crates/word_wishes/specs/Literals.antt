-- What literals want.
use Rattle.std.specs.Prelude.{ℕ, List, [], ◌++◌, Option, Some, None}
use Rattle.y2k_base.specs.declared.edit.Edit.{Edit}
use Rattle.y2k_base.specs.declared.word.Word.{Word}
use Rattle.window_modes.specs.declared.modes.YearMode.{YearMode}
use Rattle.date_uses.specs.declared.uses.Used.{Used}
use Rattle.date_uses.specs.declared.uses.Used.TheVariants as used
use Rattle.literal_images.specs.declared.meeting.Meeting.{Meeting}
use Rattle.literal_images.specs.declared.meeting.Meeting.TheVariants as meetings
use Rattle.literal_images.specs.Images.{image}
use Rattle.word_wishes.specs.Wishes.{wanted}

-- the position of a literal or a figurative constant
abbrev pub literal_at : Used → Option ℕ
literal_at (used.Place place) = None
literal_at (used.Number value digits at) = Some at
literal_at (used.Text bytes at) = Some at
literal_at (used.Figure byte at) = Some at

abbrev pub literal_over : List YearMode → ℕ → List Word → Meeting → Used → Used → Option ℕ → List Edit
literal_over modes program words meeting literal operand None = []
literal_over modes program words meeting literal operand (Some position) =
    wanted program words position (image modes meeting literal operand)

-- a literal wants its image where it meets an expanded year, and else the word that it has
abbrev pub literal_wishes : List YearMode → ℕ → List Word → Meeting → Used → Used → List Edit
literal_wishes modes program words meeting literal operand =
    literal_over modes program words meeting literal operand (literal_at literal)

abbrev pub compared_wishes : List YearMode → ℕ → List Word → Used → Used → List Edit
compared_wishes modes program words left right =
    literal_wishes modes program words meetings.Compared left right ++ literal_wishes modes program words meetings.Compared right left

abbrev pub high_wishes : List YearMode → ℕ → List Word → Option Used → Used → List Edit
high_wishes modes program words None item = []
high_wishes modes program words (Some high) item = literal_wishes modes program words meetings.Compared high item

-- the values of a condition-name are compared with its item
abbrev pub range_wishes : List YearMode → ℕ → List Word → Used → Used → Option Used → List Edit
range_wishes modes program words item low high =
    literal_wishes modes program words meetings.Compared low item ++ high_wishes modes program words high item
