-- How the characters of numbers are gone over.
use Rattle.std.specs.Prelude.{ℕ, ◌+◌, ◌-◌, ◌*◌, Bool, true, not, ◌||◌, ◌&&◌, ◌==◌, nat_lt, nat_le, if◌then◌else◌, List, [], ◌∷◌, Option, Some, None}
use Rattle.std.specs.Char.{is_ascii_digit}

-- digits after those that write a number
abbrev pub digits : ℕ → List ℕ → Option ℕ
digits value [] = Some value
digits value (b ∷ bs) =
    let longer = 10 * value + (b - 48) in
    if not (is_ascii_digit b) then None else (if nat_lt 4294967295 longer then None else digits longer bs)

-- digits, and a point where there was none, after those of a number
abbrev pub unsigned : Bool → ℕ → ℕ → ℕ → List ℕ → Option (ℕ × ℕ × ℕ)
unsigned is_fraction number count scale [] = if count == 0 || (is_fraction && scale == 0) then None else Some (number, count, scale)
unsigned is_fraction number count scale (b ∷ bs) =
    if b == 46 then (if is_fraction then None else unsigned true number count scale bs)
    else (if not (is_ascii_digit b) || nat_le 18 count || nat_le 100000000000000000 number then None
    else unsigned is_fraction (10 * number + (b - 48)) (count + 1) (if is_fraction then scale + 1 else scale) bs)
