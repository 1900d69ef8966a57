-- What a receiver makes of a number, and numbers as texts of digits.
use Rattle.std.specs.Prelude.{ℕ, ◌-◌, ◌*◌, ◌/◌, ◌^◌, cond, nat_le, ℤ, unsigned_abs, List, [], ◌∷◌, ◌++◌, map}
use Rattle.y2k_base.specs.declared.picture.Run.{Run}
use Rattle.byte_lists.specs.Digit.{decimal, codes}
use Rattle.program_meaning.specs.Number.{with_sign, is_minus}
use Rattle.program_meaning.specs.Kind.{Symbol, symbol_of}
use Rattle.program_meaning.specs.Arithmetic.{Scaled}
use Rattle.tree_reading.specs.Reading.{written_out}

-- a number at a scale: the digits after it are cut, or zeros filled in
abbrev pub moved_value : ℕ → Scaled → ℤ
moved_value scale a =
    with_sign (is_minus a.number) (cond (nat_le a.scale scale) (unsigned_abs a.number * 10 ^ (scale - a.scale)) (unsigned_abs a.number / 10 ^ (a.scale - scale)))

-- the places of a picture
abbrev pub symbols : List Run → List Symbol
symbols runs = map symbol_of (written_out runs)

-- so many digits of a number after its minus, if it has one
abbrev pub shown : ℤ → ℕ → List ℕ
shown number digits = cond (is_minus number) (45 ∷ []) [] ++ codes (decimal digits (unsigned_abs number))
