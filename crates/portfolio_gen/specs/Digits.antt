-- Numbers as decimal digits.
use Rattle.std.specs.Prelude.{ℕ, zero, suc, ◌+◌, ◌*◌, ◌/◌, ◌%◌, ◌^◌, ◌<◌, List, [], ◌∷◌, slice_index}
use Rattle.std.specs.Char.{IsAsciiDigit}

-- the last n decimal digits of a number
abbrev pub digits : ℕ → ℕ → List ℕ
digits zero number = []
digits (suc n) number = (number / 10 ^ n % 10 + 48) ∷ digits n number

-- the first twelve bytes of each of so many records of 20 bytes are digits
abbrev pub HaveDigits : ℕ → List ℕ → Type 0
HaveDigits count bytes = (k j : ℕ) → k < count → j < 12 → IsAsciiDigit (slice_index bytes (20 * k + j))
