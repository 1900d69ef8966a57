-- Laws of decimal digits: lists of them and the numbers that they write.
use Rattle.std.proofs.Common.{◌≡◌, ℕ, zero, suc, ◌+◌, ◌-◌, ◌*◌, ◌/◌, ◌%◌, ◌^◌, ◌<◌, ◌≤◌, true, List, [], ◌∷◌, length, refl, sym, ap, ◌∙◌, arith, leb}
use Rattle.std.proofs.Math.Nat.{pow-zero, pow-suc, pow-succ', mul-add-div_right, mul-add-mod_self_right, div-eq_of_lt, mul-le-mul_right}
use Rattle.std.proofs.Math.Arith.{mod-mul}
use Rattle.std.proofs.lemmas.Nat.{pow-add, mod_below}
use Rattle.std.proofs.lemmas.Bool.{and_parts, and_from, leb-true, le-leb}
use Rattle.byte_lists.specs.Digit.{is_digit, all_digits, number, decimal}

-- a power of ten isn't 0
pub ten_pos : (n : ℕ) → 0 < 10 ^ n
ten_pos zero = omega (arith, pow-zero 10)
ten_pos (suc n) = omega (arith, pow-suc 10 n, ten_pos n)

pub length-decimal : (n v : ℕ) → length (decimal n v) ≡ n
length-decimal zero v = refl
length-decimal (suc n) v = ap suc (length-decimal n v)

-- a number's last digits write its rest
pub number-decimal : (n v : ℕ) → number (decimal n v) ≡ v % 10 ^ n
number-decimal zero v = omega (arith, pow-zero 10)
number-decimal (suc n) v =
    let step = mod-mul v {m = 10} {c = 10 ^ n} (omega arith) (ten_pos n) in
    let rest = number-decimal n v in
    let power : 10 ^ suc n ≡ 10 * 10 ^ n = pow-succ' 10 n in
    rw (length-decimal n v, rest, power) (sym step)

pub digit_below : (d : ℕ) → is_digit 0 d ≡ true → d < 10
digit_below d h = let top : d ≤ 9 = leb-true d 9 (and_parts (leb 0 d) (leb d 9) h).1 in omega arith

-- digits write less than the power of ten of their count
pub number_below : (ds : List ℕ) → all_digits 0 ds ≡ true → number ds < 10 ^ length ds
number_below [] h = omega (arith, pow-zero 10)
number_below (d ∷ ds) h =
    let parts = and_parts _ _ h in
    let first = digit_below d parts.0 in
    let rest = number_below ds parts.1 in
    let power : 10 ^ suc (length ds) ≡ 10 * 10 ^ length ds = pow-succ' 10 (length ds) in
    let nine : d ≤ 9 = omega arith in
    let most : d * 10 ^ length ds ≤ 9 * 10 ^ length ds = mul-le-mul_right (10 ^ length ds) nine in
    omega arith

regrouped : (a x y r : ℕ) → a * (10 * x * y) + r ≡ (a * x * 10) * y + r
regrouped a x y r = grind arith

-- higher digits don't show in the last ones
pub decimal-above : (n m a r : ℕ) → n ≤ m → decimal n (a * 10 ^ m + r) ≡ decimal n r
decimal-above zero m a r h = refl
decimal-above (suc n) m a r h =
    let k : ℕ = m - suc n in
    let exponent : m ≡ suc k + n = omega arith in
    let power : 10 ^ m ≡ 10 * 10 ^ k * 10 ^ n = ap (λ e. 10 ^ e) exponent ∙ pow-add 10 (suc k) n ∙ ap (λ p. p * 10 ^ n) (pow-succ' 10 k) in
    let shape : a * 10 ^ m + r ≡ (a * 10 ^ k * 10) * 10 ^ n + r = ap (λ p. a * p + r) power ∙ regrouped a (10 ^ k) (10 ^ n) r in
    let head : (a * 10 ^ m + r) / 10 ^ n % 10 ≡ r / 10 ^ n % 10 =
    ap (λ v. v / 10 ^ n % 10) shape ∙ ap (λ q. q % 10) (mul-add-div_right (ten_pos n) (a * 10 ^ k * 10) r) ∙ mul-add-mod_self_right (a * 10 ^ k) 10 (r / 10 ^ n) in
    let tail = decimal-above n m a r (omega arith) in
    rw (head, tail) refl

-- the digits of the number that digits write are those
pub decimal-number : (ds : List ℕ) → all_digits 0 ds ≡ true → decimal (length ds) (number ds) ≡ ds
decimal-number [] h = refl
decimal-number (d ∷ ds) h =
    let parts = and_parts _ _ h in
    let first = digit_below d parts.0 in
    let below = number_below ds parts.1 in
    let n : ℕ = length ds in
    let quotient : (d * 10 ^ n + number ds) / 10 ^ n ≡ d + number ds / 10 ^ n = mul-add-div_right (ten_pos n) d (number ds) in
    let none : number ds / 10 ^ n ≡ 0 = div-eq_of_lt below in
    let head : (d * 10 ^ n + number ds) / 10 ^ n % 10 ≡ d = ap (λ q. q % 10) quotient ∙ omega (arith, none) in
    rw (head, decimal-above n n d (number ds) (omega arith), decimal-number ds parts.1) refl

-- what is taken from a number are digits
pub all_digits-decimal : (n v : ℕ) → all_digits 0 (decimal n v) ≡ true
all_digits-decimal zero v = refl
all_digits-decimal (suc n) v =
    let d : ℕ = v / 10 ^ n % 10 in
    let below : d < 10 = mod_below (v / 10 ^ n) 10 (omega arith) in
    and_from (is_digit 0 d) (all_digits 0 (decimal n v)) (and_from (leb 0 d) (leb d 9) (le-leb 0 d (omega arith)) (le-leb d 9 (omega arith))) (all_digits-decimal n v)
