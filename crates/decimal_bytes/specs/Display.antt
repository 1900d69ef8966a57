-- DISPLAY numbers: a byte for each digit, and a sign over the first or the last of them, or in a byte
-- of its own before or after them.
use Rattle.std.specs.Prelude.{ℕ, ◌+◌, ◌-◌, Bool, true, false, ◌&&◌, ◌==◌, nat_le, List, slice_index, ℤ, Option, Some, None, if◌then◌else◌}
use Rattle.decimal_bytes.specs.declared.form.NumForm.{NumForm}
use Rattle.decimal_bytes.specs.declared.form.SignPlace.{SignPlace}
use Rattle.decimal_bytes.specs.declared.form.SignPlace.TheVariants.{Trailing, Leading, TrailingSeparate, LeadingSeparate}
use Rattle.decimal_bytes.specs.Positional.{decimal}
use Rattle.decimal_bytes.specs.Signed.{signed_number}

-- whether the sign has a byte of its own
abbrev pub is_separate : SignPlace → Bool
is_separate Trailing = false
is_separate Leading = false
is_separate TrailingSeparate = true
is_separate LeadingSeparate = true

-- how many bytes a DISPLAY number has
abbrev pub display_length : NumForm → ℕ
display_length form = if form.signed && is_separate form.sign then form.digits + 1 else form.digits

-- the offset of the first digit where the number is signed
abbrev pub digits_start : SignPlace → ℕ
digits_start Trailing = 0
digits_start Leading = 0
digits_start TrailingSeparate = 0
digits_start LeadingSeparate = 1

-- the offset of the digit at a position
abbrev pub digit_offset : NumForm → ℕ → ℕ
digit_offset form position = (if form.signed then digits_start form.sign else 0) + position

-- whether the sign of n digits stands over the digit at a position
abbrev pub is_sign_over : SignPlace → ℕ → ℕ → Bool
is_sign_over Trailing n position = position + 1 == n
is_sign_over Leading n position = position == 0
is_sign_over TrailingSeparate n position = false
is_sign_over LeadingSeparate n position = false

-- the digit in a byte from 30 to 39 hexadecimal
abbrev pub plain_digit : ℕ → Option ℕ
plain_digit byte = if nat_le 48 byte && nat_le byte 57 then Some (byte - 48) else None

-- the digit in a byte that bears a sign: a minus adds 40 hexadecimal
abbrev pub signed_digit : ℕ → Option ℕ
signed_digit byte = if nat_le 112 byte then plain_digit (byte - 64) else plain_digit byte

-- the digit at a position
abbrev pub display_digit : NumForm → List ℕ → ℕ → Option ℕ
display_digit form bytes position =
    if form.signed && is_sign_over form.sign form.digits position
    then signed_digit (slice_index bytes (digit_offset form position))
    else plain_digit (slice_index bytes (digit_offset form position))

-- whether a sign byte is `-`, where it is `+` or `-`
abbrev pub separate_minus : ℕ → Option Bool
separate_minus byte = if byte == 45 then Some true else (if byte == 43 then Some false else None)

-- whether the sign of n digits is a minus, if there is a sign
abbrev pub minus_at : SignPlace → ℕ → List ℕ → Option Bool
minus_at Trailing n bytes = Some (nat_le 112 (slice_index bytes (n - 1)))
minus_at Leading n bytes = Some (nat_le 112 (slice_index bytes 0))
minus_at TrailingSeparate n bytes = separate_minus (slice_index bytes n)
minus_at LeadingSeparate n bytes = separate_minus (slice_index bytes 0)

-- whether the number is below zero or a negative zero, if there is a sign; an unsigned number has none
abbrev pub display_minus : NumForm → List ℕ → Option Bool
display_minus form bytes = if form.signed then minus_at form.sign form.digits bytes else Some false

-- the number that DISPLAY bytes hold, if they hold one
abbrev pub display_value : NumForm → List ℕ → Option ℤ
display_value form bytes = signed_number (display_minus form bytes) (decimal form.digits (display_digit form bytes))
