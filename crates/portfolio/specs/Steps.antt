-- Names read byte by byte. `is_named` says whether the last part has more than dots.
use Rattle.std.specs.Prelude.{ℕ, Bool, false, not, ◌&&◌, ◌||◌, ◌==◌, List, [], ◌∷◌, if◌then◌else◌}
use Rattle.portfolio.specs.Names.{is_name_byte}

abbrev pub may_follow : Bool → ℕ → Bool
may_follow is_named b = if b == 47 then is_named else is_name_byte b

abbrev pub is_named_with : Bool → ℕ → Bool
is_named_with is_named b = not (b == 47) && (is_named || not (b == 46))

abbrev pub is_rest : Bool → List ℕ → Bool
is_rest is_named [] = is_named
is_rest is_named (b ∷ bs) = if may_follow is_named b then is_rest (is_named_with is_named b) bs else false
