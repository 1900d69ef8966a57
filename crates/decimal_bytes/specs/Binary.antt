-- BINARY numbers: big-endian two's complement.
use Rattle.std.specs.Prelude.{ℕ, ◌*◌, ◌^◌, nat_le, nat_lt, List, length, slice_index, ℤ, pos, ◌-ℤ◌, if◌then◌else◌}
use Rattle.decimal_bytes.specs.declared.form.NumForm.{NumForm}
use Rattle.decimal_bytes.specs.Positional.{number_of}

-- how many bytes a binary number has: 2, 4 or 8 for up to 4, 9 or 18 digits
abbrev pub binary_length : NumForm → ℕ
binary_length form = if nat_le form.digits 4 then 2 else (if nat_le form.digits 9 then 4 else 8)

-- the number of n bytes in two's complement, of the unsigned number that they spell
abbrev pub twos_complement : ℕ → ℕ → ℤ
twos_complement n unsigned = if nat_lt (2 * unsigned) (256 ^ n) then pos unsigned else (pos unsigned -ℤ pos (256 ^ n))

-- the number that the bytes hold
abbrev pub binary_value : List ℕ → ℤ
binary_value bytes = twos_complement (length bytes) (number_of 256 (length bytes) (slice_index bytes))
