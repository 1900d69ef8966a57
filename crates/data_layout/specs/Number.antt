-- What a picture says of a number: its digits, its point and its sign; and the bytes of an item with it.
use Rattle.std.specs.Prelude.{ℕ, ◌+◌, ◌/◌, Bool, true, false, ◌||◌, ◌&&◌, ◌==◌, nat_le, List, [], ◌∷◌, Option, Some, None, if◌then◌else◌}
use Rattle.y2k_base.specs.declared.picture.Run.{Run}
use Rattle.y2k_base.specs.declared.picture.Picture.{Picture}
use Rattle.decimal_bytes.specs.declared.form.NumForm.{NumForm}
use Rattle.decimal_bytes.specs.declared.form.SignPlace.{SignPlace}
use Rattle.decimal_bytes.specs.declared.form.SignPlace.TheVariants as sign
use Rattle.cobol_syntax.specs.declared.program.Usage.{Usage}
use Rattle.cobol_syntax.specs.declared.program.Usage.TheVariants as usage
use Rattle.picture.specs.Inserting.{takes_byte}

-- each 9 and each Z is a digit
abbrev pub run_digits : Run → ℕ
run_digits run = if run.symbol == 57 || run.symbol == 90 then run.count else 0

abbrev pub digits : List Run → ℕ
digits [] = 0
digits (run ∷ runs) = run_digits run + digits runs

-- a V or a point
abbrev pub is_point : ℕ → Bool
is_point symbol = symbol == 86 || symbol == 46

-- the digits that follow the point
abbrev pub decimals : List Run → ℕ
decimals [] = 0
decimals (run ∷ runs) = if is_point run.symbol then digits runs else decimals runs

-- an S, or a minus at the end
abbrev pub is_signed : List Run → Bool
is_signed [] = false
is_signed (run ∷ runs) = (run.symbol == 83 || run.symbol == 45) || is_signed runs

-- every symbol takes a byte but S and V
abbrev pub run_bytes : Run → ℕ
run_bytes run = if takes_byte run.symbol then run.count else 0

abbrev pub symbol_bytes : List Run → ℕ
symbol_bytes [] = 0
symbol_bytes (run ∷ runs) = run_bytes run + symbol_bytes runs

abbrev pub is_separate : SignPlace → Bool
is_separate sign.Trailing = false
is_separate sign.Leading = false
is_separate sign.TrailingSeparate = true
is_separate sign.LeadingSeparate = true

-- a binary number has 2, 4 or 8 bytes, for up to 4, 9 or 18 digits
abbrev pub binary_bytes : ℕ → ℕ
binary_bytes n = if nat_le n 4 then 2 else (if nat_le n 9 then 4 else 8)

abbrev pub sign_bytes : SignPlace → List Run → ℕ
sign_bytes place runs = if is_separate place && is_signed runs then 1 else 0

-- the bytes of an elementary item. A separate sign takes a byte of a signed item; a packed number has two
-- digits in a byte, and its sign in the last half-byte.
abbrev pub item_bytes : Usage → SignPlace → List Run → ℕ
item_bytes usage.Display place runs = symbol_bytes runs + sign_bytes place runs
item_bytes usage.Packed place runs = digits runs / 2 + 1
item_bytes usage.Binary place runs = binary_bytes (digits runs)

abbrev pub runs_of : Option Picture → List Run
runs_of None = []
runs_of (Some picture) = picture.runs

-- digits, point and sign of an item; a group has no digits
abbrev pub form_of : Option Picture → SignPlace → NumForm
form_of picture place = record {
  digits = digits (runs_of picture);
  scale = decimals (runs_of picture);
  signed = is_signed (runs_of picture);
  sign = place;
}
