-- A literal is the number that is written.
use Rattle.std.proofs.Common.{◌≡◌, ℕ, zero, suc, ◌*◌, ◌/◌, ◌%◌, ◌^◌, ◌<◌, true, ℤ, pos, negsuc, length, refl, sym, ap, ◌∙◌, arith, leb}
use Rattle.std.specs.Prelude.{unsigned_abs}
use Rattle.std.proofs.Math.Nat.{pow-zero, pow-suc, pow-succ', mod-eq_of_lt}
use Rattle.std.proofs.Math.Arith.{mod-mul}
use Rattle.std.proofs.lemmas.Nat.{mod_below}
use Rattle.std.proofs.lemmas.Bool.{and_from, le-leb, le-ltb}
use Rattle.byte_lists.specs.Digit.{is_digit, all_digits, number, decimal}
use Rattle.program_meaning.specs.Number.{with_sign, is_minus}
use Rattle.program_meaning.specs.Moves.{literal_number}
use Rattle.program_meaning.specs.Arithmetic.{exact, scaled}

ten_pos : (n : ℕ) → 0 < 10 ^ n
ten_pos zero = omega (arith, pow-zero 10)
ten_pos (suc n) = omega (arith, pow-suc 10 n, ten_pos n)

length-decimal : (n v : ℕ) → length (decimal n v) ≡ n
length-decimal zero v = refl
length-decimal (suc n) v = ap suc (length-decimal n v)

number-decimal : (n v : ℕ) → number (decimal n v) ≡ v % 10 ^ n
number-decimal zero v = omega (arith, pow-zero 10)
number-decimal (suc n) v =
    let step = mod-mul v {m = 10} {c = 10 ^ n} (omega arith) (ten_pos n) in
    let rest = number-decimal n v in
    let power : 10 ^ suc n ≡ 10 * 10 ^ n = pow-succ' 10 n in
    rw (length-decimal n v, rest, power) (sym step)

pub all_digits-decimal : (n v : ℕ) → all_digits 0 (decimal n v) ≡ true
all_digits-decimal zero v = refl
all_digits-decimal (suc n) v =
    let d : ℕ = v / 10 ^ n % 10 in
    let below : d < 10 = mod_below (v / 10 ^ n) 10 (omega arith) in
    and_from (is_digit 0 d) (all_digits 0 (decimal n v)) (and_from (leb 0 d) (leb d 9) (le-leb 0 d (omega arith)) (le-leb d 9 (omega arith))) (all_digits-decimal n v)

with_sign-unsigned_abs : (v : ℤ) → with_sign (is_minus v) (unsigned_abs v) ≡ v
with_sign-unsigned_abs (pos n) = ap (λ b. with_sign b n) (le-ltb n 0 (omega arith))
with_sign-unsigned_abs (negsuc n) = refl

pub literal-exact : (v : ℤ) (scale digits : ℕ) → unsigned_abs v < 10 ^ digits → exact (literal_number v scale digits) ≡ scaled v scale
literal-exact v scale digits small =
    ap (λ (m : ℕ). scaled (with_sign (is_minus v) m) scale) (number-decimal digits (unsigned_abs v) ∙ mod-eq_of_lt small) ∙ ap (λ (z : ℤ). scaled z scale) (with_sign-unsigned_abs v)
