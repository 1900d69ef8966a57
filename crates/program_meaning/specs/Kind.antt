-- What an item is: a group, a text, edited digits, or a number.
use Rattle.std.specs.Prelude.{ℕ, ◌+◌, Bool, true, false, cond, ◌&&◌, not, ◌==◌, List, [], ◌∷◌}
use Rattle.program_meaning.specs.Number.{Usage, Display, Packed, Binary, NumForm, Trailing}

-- a picture of edited digits: a digit, a digit that may be a space, a comma, a byte that shows itself, or the sign
pub data Symbol : Type 0 where
  Nine : Symbol
  Zee : Symbol
  Comma : Symbol
  Show : (byte : ℕ) → Symbol
  Dash : Symbol

-- by its character: 9, Z, comma, minus, B for a space, and all others
abbrev pub symbol_of : ℕ → Symbol
symbol_of c = cond (c == 57) Nine (cond (c == 90) Zee (cond (c == 44) Comma (cond (c == 45) Dash (cond (c == 66) (Show 32) (Show c)))))

-- the kinds of item. The picture is written out, a symbol for each place
pub data Kind : Type 0 where
  Group : Kind
  Text : Kind
  Edited : (picture : List Symbol) → Kind
  Number : (usage : Usage) (form : NumForm) → Kind

-- how many digits a picture shows
abbrev pub digits_shown : List Symbol → ℕ
digits_shown [] = 0
digits_shown (Nine ∷ ss) = 1 + digits_shown ss
digits_shown (Zee ∷ ss) = 1 + digits_shown ss
digits_shown (Comma ∷ ss) = digits_shown ss
digits_shown (Show byte ∷ ss) = digits_shown ss
digits_shown (Dash ∷ ss) = digits_shown ss

-- how many of them stand after the point
abbrev pub digits_after : List Symbol → ℕ
digits_after [] = 0
digits_after (Nine ∷ ss) = digits_after ss
digits_after (Zee ∷ ss) = digits_after ss
digits_after (Comma ∷ ss) = digits_after ss
digits_after (Show byte ∷ ss) = cond (byte == 46) (digits_shown ss) (digits_after ss)
digits_after (Dash ∷ ss) = digits_after ss

abbrev pub has_dash : List Symbol → Bool
has_dash [] = false
has_dash (Nine ∷ ss) = has_dash ss
has_dash (Zee ∷ ss) = has_dash ss
has_dash (Comma ∷ ss) = has_dash ss
has_dash (Show byte ∷ ss) = has_dash ss
has_dash (Dash ∷ ss) = true

abbrev pub edited_form : List Symbol → NumForm
edited_form ss = record { digits = digits_shown ss; scale = digits_after ss; signed = has_dash ss; sign = Trailing }

abbrev pub no_form : NumForm
no_form = record { digits = 0; scale = 0; signed = false; sign = Trailing }

-- the digits, point and sign that an item has; a group or text has none
abbrev pub form_of : Kind → NumForm
form_of Group = no_form
form_of Text = no_form
form_of (Edited picture) = edited_form picture
form_of (Number usage form) = form

-- what is moved to it is aligned at the point
abbrev pub is_numeric : Kind → Bool
is_numeric Group = false
is_numeric Text = false
is_numeric (Edited picture) = true
is_numeric (Number usage form) = true

abbrev pub is_display : Usage → Bool
is_display Display = true
is_display Packed = false
is_display Binary = false

-- an unsigned DISPLAY integer is taken as its bytes
abbrev pub is_plain : Usage → NumForm → Bool
is_plain usage form = is_display usage && (not form.signed && form.scale == 0)
