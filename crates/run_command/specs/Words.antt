-- The words of `run M JOB YYMMDD BOUND OUT` that are a day and a bound.
use Rattle.std.specs.Prelude.{ℕ, ◌+◌, ◌*◌, ◌-◌, ◌%◌, Bool, ◌&&◌, ◌||◌, ◌==◌, nat_le, List, [], ◌∷◌, length, Option, Some, None, if◌then◌else◌}
use Rattle.trial_run.specs.declared.day.Day.{Day}

abbrev pub is_digit : ℕ → Bool
is_digit byte = nat_le 48 byte && nat_le byte 57

-- the number of two digits, with what follows it
abbrev pub two_digits : List ℕ → Option (ℕ × List ℕ)
two_digits [] = None
two_digits (tens ∷ []) = None
two_digits (tens ∷ units ∷ rest) = if is_digit tens && is_digit units then Some (10 * (tens - 48) + (units - 48), rest) else None

-- February has 29 days where YY is divisible by 4
abbrev pub days_in : ℕ → ℕ → ℕ
days_in yy mm =
    if mm == 2 then (if yy % 4 == 0 then 29 else 28)
    else (if (mm == 4 || mm == 6) || (mm == 9 || mm == 11) then 30 else 31)

abbrev pub is_date : ℕ → ℕ → ℕ → Bool
is_date yy mm dd = (nat_le 1 mm && nat_le mm 12) && (nat_le 1 dd && nat_le dd (days_in yy mm))

abbrev pub date : ℕ → ℕ → ℕ → Option Day
date yy mm dd = if is_date yy mm dd then Some (record { yy = yy; mm = mm; dd = dd }) else None

abbrev pub day_after : ℕ → ℕ → Option (ℕ × List ℕ) → Option Day
day_after yy mm None = None
day_after yy mm (Some (dd, [])) = date yy mm dd
day_after yy mm (Some (dd, b ∷ bs)) = None

abbrev pub month_after : ℕ → Option (ℕ × List ℕ) → Option Day
month_after yy None = None
month_after yy (Some (mm, rest)) = day_after yy mm (two_digits rest)

abbrev pub year_first : Option (ℕ × List ℕ) → Option Day
year_first None = None
year_first (Some (yy, rest)) = month_after yy (two_digits rest)

-- six digits, YYMMDD, that are a day
abbrev pub day_of : List ℕ → Option Day
day_of word = year_first (two_digits word)

-- a number with these further digits
abbrev pub with_digits : ℕ → List ℕ → Option ℕ
with_digits value [] = Some value
with_digits value (b ∷ bs) = if is_digit b then with_digits (10 * value + (b - 48)) bs else None

-- 1 to 18 digits
abbrev pub bound_of : List ℕ → Option ℕ
bound_of word = if nat_le 1 (length word) && nat_le (length word) 18 then with_digits 0 word else None
