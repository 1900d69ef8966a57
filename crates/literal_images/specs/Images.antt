-- The new word of a literal that meets an expanded year, and whether it may be written.
use Rattle.std.specs.Prelude.{ℕ, Bool, true, false, not, ◌&&◌, ◌||◌, List, [], ◌∷◌, nat_lt, int_lt, pos, Option, Some, None, if◌then◌else◌}
use Rattle.std.specs.List.{list_any}
use Rattle.byte_lists.specs.Digit.{all_digits}
use Rattle.window_modes.specs.declared.modes.YearMode.{YearMode}
use Rattle.date_views.specs.declared.side.Field.{Field}
use Rattle.date_views.specs.declared.side.Side.{Side}
use Rattle.date_views.specs.declared.side.Side.TheVariants as sides
use Rattle.date_uses.specs.declared.uses.Used.{Used}
use Rattle.date_uses.specs.declared.uses.Used.TheVariants as used
use Rattle.literal_images.specs.declared.meeting.Meeting.{Meeting}
use Rattle.literal_images.specs.declared.image.NewWord.{NewWord}
use Rattle.literal_images.specs.declared.image.NewWord.TheVariants as words
use Rattle.literal_images.specs.Meetings.{is_text, has_image, is_by_value, expanded_in}
use Rattle.literal_images.specs.Numbers.{units, new_whole, new_number}
use Rattle.literal_images.specs.Texts.{grown, is_tame, new_text}

-- a text stays one, of the integer digits alone
abbrev pub value_word : Meeting → Used → Field → List ℕ → NewWord
value_word meeting literal field units =
    if is_text literal then words.Literal (new_whole meeting literal field units) else words.Number (new_number meeting literal field units)

-- by the powers of the years that it meets
abbrev pub image_by_value : Meeting → Used → Field → List ℕ → Option NewWord
image_by_value meeting literal field [] = None
image_by_value meeting literal field (unit ∷ units) = Some (value_word meeting literal field (unit ∷ units))

-- by the years that it meets
abbrev pub image_by_bytes : Meeting → Used → Field → List YearMode → Option NewWord
image_by_bytes meeting literal field [] = None
image_by_bytes meeting literal field (mode ∷ modes) = Some (words.Literal (new_text meeting literal field.span (mode ∷ modes)))

abbrev pub image_in : Meeting → Used → Field → List YearMode → Option NewWord
image_in meeting literal field modes =
    if is_by_value meeting literal field.kind then image_by_value meeting literal field (units field.view modes)
    else image_by_bytes meeting literal field modes

-- the new word of a literal that meets a field, where it meets an expanded year there
abbrev pub image_at : List YearMode → Meeting → Used → Field → Option NewWord
image_at modes meeting literal field = if has_image literal then image_in meeting literal field (expanded_in modes field.span) else None

-- a reference that may stand anywhere meets no year
abbrev pub image_beside : List YearMode → Meeting → Used → Option Side → Option NewWord
image_beside modes meeting literal None = None
image_beside modes meeting literal (Some (sides.Known field)) = image_at modes meeting literal field
image_beside modes meeting literal (Some (sides.Moving most)) = None

-- the new word of a literal that meets an operand
abbrev pub image : List YearMode → Meeting → Used → Used → Option NewWord
image modes meeting literal (used.Place place) = image_beside modes meeting literal place.side
image modes meeting literal (used.Number value digits at) = None
image modes meeting literal (used.Text bytes at) = None
image modes meeting literal (used.Figure byte at) = None

-- below zero
abbrev pub is_negative : Used → Bool
is_negative (used.Place place) = false
is_negative (used.Number value digits at) = int_lt value.number (pos 0)
is_negative (used.Text bytes at) = false
is_negative (used.Figure byte at) = false

-- a text with a byte that is no digit
abbrev pub is_no_number : Used → Bool
is_no_number (used.Place place) = false
is_no_number (used.Number value digits at) = false
is_no_number (used.Text bytes at) = not (all_digits 48 bytes)
is_no_number (used.Figure byte at) = false

-- a byte that may not stand in a literal
abbrev pub has_control : List ℕ → Bool
has_control bytes = list_any (λ byte. nat_lt byte 32) bytes

-- its bytes can't be those of a year, or its image can't be written
abbrev pub is_bad_text : Meeting → Used → Field → List YearMode → Bool
is_bad_text meeting literal field modes =
    not (is_tame meeting literal field.span modes) || has_control (grown meeting literal field.span modes)

-- no literal can stand for what it means there after conversion
abbrev pub is_bad : Meeting → Used → Field → List YearMode → Bool
is_bad meeting literal field modes =
    is_negative literal || (if is_by_value meeting literal field.kind then is_no_number literal else is_bad_text meeting literal field modes)
