-- The names that files have on a shelf.
use Rattle.std.specs.Prelude.{ℕ, Bool, not, ◌&&◌, ◌||◌, ◌==◌, nat_lt, List, codes}
use Rattle.std.specs.List.{list_any, list_all, slice_split}
use Rattle.std.specs.Str.{bytes_eq}

abbrev pub is_small_letter : ℕ → Bool
is_small_letter b = not (nat_lt b 97) && nat_lt b 123

abbrev pub is_letter_or_digit : ℕ → Bool
is_letter_or_digit b = (not (nat_lt b 65) && nat_lt b 91) || (is_small_letter b || (not (nat_lt b 48) && nat_lt b 58))

-- a letter, a digit, a dot, a hyphen or an underscore
abbrev pub is_name_byte : ℕ → Bool
is_name_byte b = is_letter_or_digit b || (b == 46 || (b == 45 || b == 95))

-- such bytes, of which one at least is no dot
abbrev pub is_part : List ℕ → Bool
is_part part = list_all is_name_byte part && list_any (λ b. not (b == 46)) part

-- parts joined by slashes
abbrev pub is_shelf_name : List ℕ → Bool
is_shelf_name name = list_all is_part (slice_split (λ b. b == 47) name)

-- the names of what the converter itself writes beside the texts
abbrev pub is_kept_name : List ℕ → Bool
is_kept_name name = bytes_eq name (codes "done") || (bytes_eq name (codes "labels.csv") || bytes_eq name (codes "plan.csv"))

-- whether a file of a manifest may have the name
abbrev pub is_file_name : List ℕ → Bool
is_file_name name = is_shelf_name name && not (is_kept_name name)
