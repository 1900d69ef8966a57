-- Whether a number or an edited item keeps a value that is moved to it.
use Rattle.std.specs.Prelude.{ℕ, ℤ, pos, unsigned_abs, int_lt, ◌-◌, ◌*◌, ◌^◌, ◌/◌, ◌%◌, Bool, not, ◌||◌, ◌&&◌, ◌==◌, nat_le, nat_lt, List, if◌then◌else◌}
use Rattle.y2k_base.specs.declared.picture.Run.{Run}
use Rattle.decimal_bytes.specs.declared.form.Scaled.{Scaled}
use Rattle.data_layout.specs.Number.{digits, decimals, is_signed}

-- n is whole times the cut, and less than so many times it
abbrev pub is_cut_within : ℕ → ℕ → ℕ → Bool
is_cut_within n cut bound = n % cut == 0 && nat_lt (n / cut) bound

-- n divided by 10 to the scale fits in so many digits, of which some follow the point, and none of it is cut
abbrev pub fits : ℕ → ℕ → ℕ → ℕ → Bool
fits n scale places after =
    if nat_le scale after then nat_lt (n * 10 ^ (after - scale)) (10 ^ places)
    else is_cut_within n (10 ^ (scale - after)) (10 ^ places)

-- a number below zero has a sign
abbrev pub sign_kept : List Run → ℤ → Bool
sign_kept runs number = is_signed runs || not (int_lt number (pos 0))

-- the digits that aren't zero have their places, and the sign has its own
abbrev pub keeps : List Run → Scaled → Bool
keeps runs value =
    sign_kept runs value.number && fits (unsigned_abs value.number) value.scale (digits runs) (decimals runs)
