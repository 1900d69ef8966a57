-- The limits of literals.
use Rattle.std.specs.Prelude.{ℕ, ◌+◌, Bool, ◌==◌, nat_lt, List, [], ◌∷◌, ◌++◌, length, flat_map, slice_get, Option, Some, None, if◌then◌else◌}
use Rattle.y2k_base.specs.declared.word.Word.{Word}
use Rattle.y2k_base.specs.declared.word.Origin.{Origin}
use Rattle.cobol_syntax.specs.declared.program.Program.{Program}
use Rattle.window_modes.specs.declared.modes.YearMode.{YearMode}
use Rattle.date_views.specs.declared.side.Field.{Field}
use Rattle.date_views.specs.declared.side.Side.{Side}
use Rattle.date_views.specs.declared.side.Side.TheVariants as sides
use Rattle.plan_limits.specs.declared.limit.Limit.{Limit}
use Rattle.plan_limits.specs.declared.limit.LimitKind.TheVariants as limits
use Rattle.plan_limits.specs.Limits.{number_limit, word_limit}
use Rattle.date_uses.specs.declared.uses.Used.{Used}
use Rattle.date_uses.specs.declared.uses.Used.TheVariants as used
use Rattle.date_uses.specs.declared.uses.UseForm.{UseForm}
use Rattle.date_uses.specs.declared.uses.UseForm.TheVariants as forms
use Rattle.date_uses.specs.declared.uses.DateUse.{DateUse}
use Rattle.literal_images.specs.declared.meeting.Meeting.{Meeting}
use Rattle.literal_images.specs.declared.meeting.Meeting.TheVariants as meetings
use Rattle.literal_images.specs.declared.image.NewWord.{NewWord}
use Rattle.literal_images.specs.declared.image.NewWord.TheVariants as words
use Rattle.literal_images.specs.Meetings.{meeting_of, expanded_in}
use Rattle.literal_images.specs.Images.{image_at, is_bad}

-- a point is no digit
abbrev pub digit_count : ℕ → ℕ
digit_count byte = if byte == 46 then 0 else 1

-- how many digits the text of a number has
abbrev pub digits_in : List ℕ → ℕ
digits_in [] = 0
digits_in (byte ∷ text) = digit_count byte + digits_in text

-- a number has at most 18 digits, and a text at most 160 characters
abbrev pub size_limits : Origin → NewWord → List Limit
size_limits at (words.Number text) =
    if nat_lt 18 (digits_in text) then number_limit limits.TooManyDigits at (digits_in text) ∷ [] else []
size_limits at (words.Literal text) =
    if nat_lt 160 (length text) then number_limit limits.LiteralFull at (length text) ∷ [] else []

abbrev pub bad_limits : Word → Bool → List Limit
bad_limits word bad = if bad then word_limit limits.BadYearLiteral word.origin word.text ∷ [] else []

-- those of a literal that meets an expanded year, and so has a new word
abbrev pub word_limits : Word → Bool → Option NewWord → List Limit
word_limits word bad None = []
word_limits word bad (Some new) = bad_limits word bad ++ size_limits word.origin new

abbrev pub limits_at : List YearMode → Word → Meeting → Used → Field → List Limit
limits_at modes word meeting literal field =
    word_limits word (is_bad meeting literal field (expanded_in modes field.span)) (image_at modes meeting literal field)

abbrev pub limits_beside : List YearMode → Word → Meeting → Used → Option Side → List Limit
limits_beside modes word meeting literal None = []
limits_beside modes word meeting literal (Some (sides.Known field)) = limits_at modes word meeting literal field
limits_beside modes word meeting literal (Some (sides.Moving most)) = []

abbrev pub limits_with : List YearMode → Option Word → Meeting → Used → Used → List Limit
limits_with modes None meeting literal operand = []
limits_with modes (Some word) meeting literal (used.Place place) = limits_beside modes word meeting literal place.side
limits_with modes (Some word) meeting literal (used.Number value digits at) = []
limits_with modes (Some word) meeting literal (used.Text bytes at) = []
limits_with modes (Some word) meeting literal (used.Figure byte at) = []

-- the first word of an operand
abbrev pub position : Used → ℕ
position (used.Place place) = place.at
position (used.Number value digits at) = at
position (used.Text bytes at) = at
position (used.Figure byte at) = at

-- those of a literal that meets an operand
abbrev pub limits_of : List YearMode → Program → Meeting → Used → Used → List Limit
limits_of modes program meeting literal operand = limits_with modes (slice_get program.words (position literal)) meeting literal operand

abbrev pub high_limits : List YearMode → Program → Option Used → Used → List Limit
high_limits modes program None item = []
high_limits modes program (Some high) item = limits_of modes program meetings.Compared high item

-- those of a use: of the literal that is moved, of a VALUE, of the ends of a range, and of each side of a comparison
abbrev pub form_limits : List YearMode → Program → UseForm → List Limit
form_limits modes program (forms.Move kind from to bridge) = limits_of modes program (meeting_of kind) from to
form_limits modes program (forms.Accept to from) = []
form_limits modes program (forms.Compare left rel right) =
    limits_of modes program meetings.Compared left right ++ limits_of modes program meetings.Compared right left
form_limits modes program (forms.Class operand numeric) = []
form_limits modes program (forms.Sum to left right size) = []
form_limits modes program (forms.Difference to left right size) = []
form_limits modes program (forms.Value item literal) = limits_of modes program meetings.Moved literal item
form_limits modes program (forms.Range item low high) =
    limits_of modes program meetings.Compared low item ++ high_limits modes program high item
form_limits modes program (forms.Mention operand) = []

abbrev pub program_limits : List YearMode → Option Program → UseForm → List Limit
program_limits modes None form = []
program_limits modes (Some program) form = form_limits modes program form

abbrev pub use_limits : List Program → List YearMode → DateUse → List Limit
use_limits programs modes date_use = program_limits modes (slice_get programs date_use.program) date_use.form

-- the limits of all literals
abbrev pub literal_limits : List Program → List YearMode → List DateUse → List Limit
literal_limits programs modes uses = flat_map (use_limits programs modes) uses
