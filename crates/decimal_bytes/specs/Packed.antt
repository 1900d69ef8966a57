-- PACKED-DECIMAL numbers: two digits in a byte, and the sign in the last half-byte.
use Rattle.std.specs.Prelude.{ℕ, ◌+◌, ◌/◌, ◌%◌, Bool, true, false, ◌||◌, ◌==◌, nat_lt, List, slice_index, ℤ, Option, Some, None, if◌then◌else◌}
use Rattle.decimal_bytes.specs.declared.form.NumForm.{NumForm}
use Rattle.decimal_bytes.specs.Positional.{decimal}
use Rattle.decimal_bytes.specs.Signed.{signed_number, written_minus}

-- how many bytes a packed number has
abbrev pub packed_length : NumForm → ℕ
packed_length form = form.digits / 2 + 1

-- the half-byte at a place, counted from the high half of the first byte
abbrev pub half_byte : List ℕ → ℕ → ℕ
half_byte bytes place =
    if place % 2 == 0 then slice_index bytes (place / 2) / 16 else slice_index bytes (place / 2) % 16

-- the place of the first digit: after a zero half-byte where the number of digits is even
abbrev pub packed_start : NumForm → ℕ
packed_start form = (form.digits + 1) % 2

-- the place of the sign
abbrev pub sign_place : NumForm → ℕ
sign_place form = packed_start form + form.digits

-- the digit at a position
abbrev pub packed_digit : NumForm → List ℕ → ℕ → Option ℕ
packed_digit form bytes position =
    if nat_lt (half_byte bytes (packed_start form + position)) 10
    then Some (half_byte bytes (packed_start form + position))
    else None

-- whether a sign half-byte is a minus: D is, C and F aren't, and another is no sign
abbrev pub is_minus_code : ℕ → Option Bool
is_minus_code code = if code == 13 then Some true else (if code == 12 || code == 15 then Some false else None)

-- whether no digit stands before the first one of the form
abbrev pub has_zero_front : NumForm → List ℕ → Bool
has_zero_front form bytes = if form.digits % 2 == 0 then half_byte bytes 0 == 0 else true

-- the number that packed bytes hold, if they hold one
abbrev pub packed_value : NumForm → List ℕ → Option ℤ
packed_value form bytes =
    if has_zero_front form bytes
    then signed_number (is_minus_code (half_byte bytes (sign_place form))) (decimal form.digits (packed_digit form bytes))
    else None

-- the sign half-byte that is written: F in an unsigned form, D for a minus, else C
abbrev pub written_code : NumForm → ℤ → ℕ
written_code form number = if form.signed then (if written_minus form number then 13 else 12) else 15
