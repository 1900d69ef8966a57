-- Literals that are dates, and whether a window of a hundred years has them.
use Rattle.std.specs.Prelude.{ℕ, ◌+◌, ◌-◌, ◌*◌, ◌^◌, unsigned_abs, Bool, true, false, ◌&&◌, nat_le, nat_lt, List, [], ◌∷◌, Option, Some, None, is_some, slice_get, if◌then◌else◌}
use Rattle.y2k_base.specs.declared.word.Word.{Word}
use Rattle.date_views.specs.declared.side.Field.{Field}
use Rattle.date_uses.specs.declared.uses.Used.{Used}
use Rattle.date_uses.specs.declared.uses.Used.TheVariants as operand
use Rattle.operand_kinds.specs.Kinds as kinds

abbrev pub is_digit : ℕ → Bool
is_digit byte = nat_le 48 byte && nat_le byte 57

abbrev pub are_digits : List ℕ → Bool
are_digits [] = true
are_digits (byte ∷ bytes) = is_digit byte && are_digits bytes

-- one or more digits, and nothing else
abbrev pub is_digits : List ℕ → Bool
is_digits [] = false
is_digits (byte ∷ bytes) = are_digits (byte ∷ bytes)

abbrev pub word_text : Option Word → Option (List ℕ)
word_text None = None
word_text (Some word) = Some word.text

-- what a literal has: a number its word, a text what its marks enclose. A figurative constant is no literal
abbrev pub literal_text : List Word → Used → Option (List ℕ)
literal_text words (operand.Place place) = None
literal_text words (operand.Number value digits at) = word_text (slice_get words at)
literal_text words (operand.Text bytes at) = Some bytes
literal_text words (operand.Figure byte at) = None

abbrev pub is_digits_text : Option (List ℕ) → Bool
is_digits_text None = false
is_digits_text (Some text) = is_digits text

-- a number without sign and point, or a text of one or more digits
abbrev pub is_digits_literal : List Word → Used → Bool
is_digits_literal words x = is_digits_text (literal_text words x)

-- a number of at most so many digits whose first two of them are those of the pivot or above
abbrev pub is_value_in_window : ℕ → ℕ → ℕ → Bool
is_value_in_window pivot digits value = nat_le (pivot * 10 ^ (digits - 2)) value && nat_lt value (10 ^ digits)

abbrev pub digit_of : ℕ → ℕ
digit_of byte = byte - 48

abbrev pub are_in_window : ℕ → List ℕ → Bool
are_in_window pivot [] = false
are_in_window pivot (tens ∷ []) = false
are_in_window pivot (tens ∷ units ∷ more) = nat_le pivot (digit_of tens * 10 + digit_of units)

-- a text whose first two digits are those of the pivot or above
abbrev pub is_text_in_window : ℕ → Option (List ℕ) → Bool
is_text_in_window pivot None = false
is_text_in_window pivot (Some text) = are_in_window pivot text

-- a literal of digits against a field: a number against a number by its value, and anything else by its bytes
abbrev pub is_in_window : List Word → ℕ → Field → Used → Bool
is_in_window words pivot field (operand.Place place) = false
is_in_window words pivot field (operand.Number value digits at) =
    if kinds.is_number field.kind then is_value_in_window pivot field.digits (unsigned_abs value.number)
    else is_text_in_window pivot (word_text (slice_get words at))
is_in_window words pivot field (operand.Text bytes at) = are_in_window pivot bytes
is_in_window words pivot field (operand.Figure byte at) = false
