-- The numbers that words stand for.
use Rattle.std.specs.Prelude.{ℕ, ◌+◌, ◌-◌, ◌*◌, ◌^◌, Bool, true, false, ◌&&◌, ◌==◌, nat_lt, nat_le, if◌then◌else◌, List, [], ◌∷◌, length, Option, Some, None, option_and_then, pos, ◌-ℤ◌}
use Rattle.std.specs.Str.{all_ascii_digits}
use Rattle.decimal_bytes.specs.declared.form.Scaled.{Scaled}

-- the number that digits write: each of them times the power of ten of its place
abbrev pub number : List ℕ → ℕ
number [] = 0
number (d ∷ ds) = (d - 48) * 10 ^ length ds + number ds

-- digits alone, of at most 4,294,967,295
abbrev pub is_whole : List ℕ → Bool
is_whole text = nat_lt 0 (length text) && (all_ascii_digits text && nat_le (number text) 4294967295)

unfoldable pub whole : List ℕ → Option ℕ
whole text = if is_whole text then Some (number text) else None

-- what stands before the first point
abbrev pub before_point : List ℕ → List ℕ
before_point [] = []
before_point (b ∷ bs) = if b == 46 then [] else b ∷ before_point bs

-- what stands after the first point, where there is one
abbrev pub after_point : List ℕ → Option (List ℕ)
after_point [] = None
after_point (b ∷ bs) = if b == 46 then Some bs else after_point bs

abbrev pub decimals : Option (List ℕ) → List ℕ
decimals None = []
decimals (Some ds) = ds

-- there is no point, or something after it
abbrev pub is_ended : Option (List ℕ) → Bool
is_ended None = true
is_ended (Some ds) = nat_lt 0 (length ds)

-- from 1 to 18 digits, and maybe a point before the last of them
abbrev pub is_decimal : List ℕ → Option (List ℕ) → Bool
is_decimal front rest =
    let count = length front + length (decimals rest) in
    all_ascii_digits front && (all_ascii_digits (decimals rest) && (is_ended rest && (nat_lt 0 count && nat_le count 18)))

-- the number without its point, how many digits it has, and how many of them stand after the point
abbrev pub decimal_of : List ℕ → List ℕ → ℕ × ℕ × ℕ
decimal_of front ds = (number front * 10 ^ length ds + number ds, length front + length ds, length ds)

unfoldable pub decimal : List ℕ → Option (ℕ × ℕ × ℕ)
decimal text =
    let front = before_point text in
    let rest = after_point text in
    if is_decimal front rest then Some (decimal_of front (decimals rest)) else None

abbrev pub scaled : Bool → ℕ × ℕ × ℕ → Scaled × ℕ
scaled is_negative u = (record { number = if is_negative then pos 0 -ℤ pos u.0 else pos u.0; scale = u.2 }, u.1)

unfoldable pub signed : Bool → List ℕ → Option (Scaled × ℕ)
signed is_negative text = option_and_then (λ u. Some (scaled is_negative u)) (decimal text)

-- an optional sign, and such digits
unfoldable pub numeral : List ℕ → Option (Scaled × ℕ)
numeral [] = signed false []
numeral (b ∷ bs) = if b == 45 then signed true bs else (if b == 43 then signed false bs else signed false (b ∷ bs))
