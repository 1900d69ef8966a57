-- Which digit of which power of ten stands in which byte of an item.
use Rattle.std.specs.Prelude.{ℕ, ◌+◌, ◌-◌, ◌/◌, ◌^◌, Bool, true, false, ◌||◌, ◌&&◌, ◌==◌, nat_le, nat_lt, List, [], ◌∷◌, ◌++◌, length, replicate, Option, Some, None, if◌then◌else◌}
use Rattle.y2k_base.specs.declared.picture.Run.{Run}
use Rattle.y2k_base.specs.declared.picture.Picture.{Picture}
use Rattle.y2k_base.specs.declared.place.Span.{Span}
use Rattle.decimal_bytes.specs.declared.form.NumForm.{NumForm}
use Rattle.cobol_syntax.specs.declared.program.Usage.{Usage}
use Rattle.cobol_syntax.specs.declared.program.Usage.TheVariants as usage
use Rattle.operand_kinds.specs.declared.kind.Kind.{Kind}
use Rattle.operand_kinds.specs.declared.kind.Kind.TheVariants as kind
use Rattle.year_labels.specs.declared.rule.View.{View}
use Rattle.year_labels.specs.declared.rule.View.TheVariants as views

-- a 9 and a Z are digits
abbrev pub is_digit : ℕ → Bool
is_digit symbol = symbol == 57 || symbol == 90

-- S and V take no byte
abbrev pub is_unseen : ℕ → Bool
is_unseen symbol = symbol == 83 || symbol == 86

-- for each byte of a run, whether it is a digit
abbrev pub run_places : Run → List Bool
run_places run =
    if is_digit run.symbol then replicate run.count true
    else (if is_unseen run.symbol then [] else replicate run.count false)

-- for each byte of a picture, whether it is a digit
abbrev pub digit_places : List Run → List Bool
digit_places [] = []
digit_places (run ∷ runs) = run_places run ++ digit_places runs

-- the power of a digit with which so many integer digits are still to come; a digit after the point has none
abbrev pub power_at : ℕ → Bool → Option ℕ
power_at left digit = if digit && nat_lt 0 left then Some (left - 1) else None

-- how many integer digits come after it
abbrev pub left_after : ℕ → Bool → ℕ
left_after left digit = if digit then left - 1 else left

-- the powers of bytes of which some are digits, so many of them before the point
abbrev pub powers : ℕ → List Bool → List (Option ℕ)
powers left [] = []
powers left (digit ∷ places) = power_at left digit ∷ powers (left_after left digit) places

-- a digit after the point
abbrev pub decimal_at : ℕ → Bool → Option ℕ
decimal_at left digit = if digit && left == 0 then Some 0 else None

-- the digits after the point, each as if it were the only one of its number
abbrev pub decimals : ℕ → List Bool → List (Option ℕ)
decimals left [] = []
decimals left (digit ∷ places) = decimal_at left digit ∷ decimals (left_after left digit) places

-- its bytes have offsets of 32 bits
abbrev pub is_placed : Span → Bool
is_placed span = nat_le (span.offset + span.length) (2 ^ 32)

-- no byte and no digit
abbrev pub nothing : View
nothing = views.Bytes (record { area = record { 0 = 0 }; offset = 0; length = 0 }) []

-- bytes with a power, or none, for each
abbrev pub over : Span → List (Option ℕ) → View
over span powers = if is_placed span && length powers == span.length then views.Bytes span powers else nothing

-- a packed number: two digits a byte, and half a byte for the sign
abbrev pub packed : Span → ℕ → View
packed span digits = if is_placed span && span.length == digits / 2 + 1 then views.Packed span digits else nothing

-- each byte a digit, the first of a number of so many digits
abbrev pub all_digits : Span → ℕ → View
all_digits span digits = over span (powers digits (replicate span.length true))

-- each byte for itself
abbrev pub each_byte : Span → View
each_byte span = over span (replicate span.length (Some 0))

abbrev pub runs_of : Option Picture → List Run
runs_of None = []
runs_of (Some picture) = picture.runs

abbrev pub integer_digits : NumForm → ℕ
integer_digits form = form.digits - form.scale

-- a text of at most 18 bytes may be used as an integer
abbrev pub text_digits : ℕ → ℕ
text_digits bytes = if nat_le bytes 18 then bytes else 0

abbrev pub text_view : Span → View
text_view span = if nat_le span.length 18 then all_digits span span.length else nothing

-- a digit a byte, as the picture has them
abbrev pub picture_view : NumForm → List Run → Span → View
picture_view form runs span = over span (powers (integer_digits form) (digit_places runs))

-- the digits after the point, each for itself
abbrev pub decimal_view : NumForm → List Run → Span → View
decimal_view form runs span = over span (decimals (integer_digits form) (digit_places runs))

-- no digit of a signed DISPLAY number, of a binary number, or of a packed number with decimals may be one of a year
abbrev pub number_view : Usage → NumForm → List Run → Span → View
number_view usage.Display form runs span = if form.signed then views.Plain else picture_view form runs span
number_view usage.Packed form runs span = if form.scale == 0 then packed span form.digits else views.Plain
number_view usage.Binary form runs span = views.Plain

-- the digits of an item or a reference
abbrev pub view_of : Kind → List Run → Span → View
view_of kind.Group runs span = nothing
view_of kind.Text runs span = text_view span
view_of (kind.Edited form) runs span = picture_view form runs span
view_of (kind.Number usage form) runs span = number_view usage form runs span

-- how many integer digits it has
abbrev pub digits_of : Kind → ℕ → ℕ
digits_of kind.Group bytes = 0
digits_of kind.Text bytes = text_digits bytes
digits_of (kind.Edited form) bytes = integer_digits form
digits_of (kind.Number usage form) bytes = integer_digits form
